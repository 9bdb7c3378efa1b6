use Rattle.std.proofs.Common.{◌≡◌, ℕ, Bool, List, ◌++◌, if◌then◌else◌, nat_lt, take, sym, ap, subst, ◌∙◌}
use Rattle.cs_lines.specs.Buffer.{pending_bytes}
use Rattle.cs_lines.specs.Counts.{CountsStream, limit_by}
use Rattle.cs_tree.specs.SinkOutputs.{given}
use Rattle.cs_lines.specs.Shown.{between, following, total_groups}
use Rattle.cs_lines.specs.Streamed.{ended_of, is_whole}
use Rattle.cs_lines.specs.Streams.{IfFound, TotalStreamed}
use Rattle.cs_lines.specs.declared.stream.Streamed.{Streamed}
use Rattle.cs_lines.proofs.ReadLemmas.{some_map}
use Rattle.cs_lines.proofs.SourceLemmas.{total_is}
use Rattle.cs_lines.specs.Work.{input_work, line_weight, shown_work}
use Rattle.cs_lines.proofs.WorkLemmas.{input_fewer, reads_fewer}
use Rattle.cs_lines.proofs.source.stream_total.Goals as goal
use Rattle.cs_lines.proofs.source.stream_total.Goals.{then-is_whole, else-is_whole}

pub returns-clause-text : goal.returns-clause-text
returns-clause-text g c =
    let page = c.args.page.now in
    let options = page.options.now in
    let counted = c.in_ok-counted.counted in
    let count = c.at_most-count in
    let g0 = given c.args.out.now in
    let shown : List ℕ = g0 ++ following (between options) page.begun (total_groups options page.name.now options.mode count.result) in
    let printed : given c.if-is_whole.out ≡ (if is_whole counted.ended then shown else g0) =
    elim c.if-is_whole.branch [
      | then-is_whole w ↦ ap given w.out-is ∙ w.print_total.ensures.0 ∙ ap (λ (b : Bool). if b then shown else g0) (sym (sym c.is_whole.ensures ∙ w.if-is_whole.true))
      | else-is_whole w ↦ ap given w.out-is ∙ ap (λ (b : Bool). if b then shown else g0) (sym (sym c.is_whole.ensures ∙ w.if-is_whole.false))
    ] in
    let left = c.args.buffer.now.left in
    let model = g.R.Source.model c.args.input.now in
    let first = pending_bytes c.args.buffer.now in
    let streamed : Streamed = record { marked = c.has_some.result; ended = counted.ended } in
    let limit = limit_by options.mode options.most in
    let counts : CountsStream c.args.search.now options limit left model first counted =
    subst (λ l. CountsStream c.args.search.now options l left model first counted) c.limit.ensures c.in_ok-counted.ensures.count in
    some_map {Q = λ source. IfFound c.args.search.now c.stream_count.new.search
    (λ finding. TotalStreamed page finding (ended_of left source) (first ++ take left source.bytes) g0 (given c.if-is_whole.out) streamed)} model
    (λ source count none finding found.
    let of = count finding found.0 in
    total_is page finding (ended_of left source) (first ++ take left source.bytes) g0 (given c.if-is_whole.out) counted.count streamed of.0 of.1
    (c.has_some.ensures ∙ ap (nat_lt 0) c.at_most-count.ensures)
    (printed ∙ ap (λ (n : ℕ). if is_whole counted.ended then g0 ++ following (between options) page.begun
    (total_groups options page.name.now options.mode n) else g0) c.at_most-count.ensures)) counts

pub returns-clause-work : goal.returns-clause-work
returns-clause-work g c =
    let options = c.args.page.now.options.now in
    let w = line_weight c.args.search.now in
    reads_fewer (input_work w) (pending_bytes c.args.buffer.now) c.args.buffer.now.left (g.R.Source.model c.args.input.now)
    (g.R.Source.model c.stream_count.new.input) c.args.search.now c.stream_count.new.search c.in_ok-counted.ensures.work (shown_work options w) (input_fewer options w)

pub returns-in_err-counted-clause-work : goal.returns-in_err-counted-clause-work
returns-in_err-counted-clause-work g c =
    let options = c.args.page.now.options.now in
    let w = line_weight c.args.search.now in
    reads_fewer (input_work w) (pending_bytes c.args.buffer.now) c.args.buffer.now.left (g.R.Source.model c.args.input.now)
    (g.R.Source.model c.stream_count.new.input) c.args.search.now c.stream_count.new.search c.in_err-counted.ensures.work (shown_work options w) (input_fewer options w)
