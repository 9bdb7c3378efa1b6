use Rattle.std.proofs.Common.{◌++◌, take}
use Rattle.cs_lines.specs.Buffer.{pending_bytes}
use Rattle.cs_tree.specs.SinkOutputs.{given}
use Rattle.cs_lines.specs.Streamed.{ended_of}
use Rattle.cs_lines.specs.Streams.{IfFound, TextCut, TextStreamed}
use Rattle.cs_lines.proofs.PlaceLemmas.{ok_map}
use Rattle.cs_lines.proofs.ReadLemmas.{any_some, some_map}
use Rattle.cs_lines.proofs.SourceLemmas.{total_cut, total_text}
use Rattle.cs_lines.proofs.source.print_source.Goals as goal

pub returns-in-Lines-clause-begins : goal.returns-in-Lines-clause-begins
returns-in-Lines-clause-begins g c = rw c.in-Lines.is c.stream_lines.ensures.begins

pub returns-in-Counts-clause-text : goal.returns-in-Counts-clause-text
returns-in-Counts-clause-text g c =
    let page = c.args.page.now in
    let model = g.R.Source.model c.args.input.now in
    let first = pending_bytes c.args.buffer.now in
    let left = c.args.buffer.now.left in
    ok_map c.stream_total.result (λ streamed total.
    some_map {Q = λ source. IfFound c.args.search.now c.stream_total.new.search (λ finding.
    TextStreamed page finding (ended_of left source) (first ++ take left source.bytes) (given c.args.out.now) (given c.stream_total.new.out)
    page.options.now.mode streamed)} model (λ source h none finding found.
    total_text page finding (ended_of left source) (first ++ take left source.bytes) (given c.args.out.now) (given c.stream_total.new.out) streamed
    page.options.now.mode c.in-Counts.is (h none finding found)) total) c.stream_total.ensures.text

pub returns-in-Counts-clause-begins : goal.returns-in-Counts-clause-begins
returns-in-Counts-clause-begins g c =
    let page = c.args.page.now in
    let first = pending_bytes c.args.buffer.now in
    let left = c.args.buffer.now.left in
    any_some {P = λ source. IfFound c.args.search.now c.stream_total.new.search (λ finding.
    TextCut page finding (ended_of left source) (first ++ take left source.bytes) (given c.args.out.now) (given c.stream_total.new.out)
    (first ++ source.bytes) page.options.now.mode c.stream_total.result)} (g.R.Source.model c.args.input.now) (λ source none finding found.
    total_cut page finding (ended_of left source) (first ++ take left source.bytes) (given c.args.out.now) (given c.stream_total.new.out)
    (first ++ source.bytes) c.stream_total.result page.options.now.mode c.in-Counts.is c.stream_total.ensures.begins)
