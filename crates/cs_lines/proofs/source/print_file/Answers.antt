use Rattle.std.proofs.Common.{◌+◌, ◌^◌, ℕ, List, length, sym, ap, subst, ◌∙◌}
use Rattle.cs_lines.specs.Buffer.{pending_bytes}
use Rattle.cs_tree.specs.SinkOutputs.{given}
use Rattle.cs_lines.specs.Project.{searched_as}
use Rattle.cs_lines.proofs.FileLemmas.{begins_before, finds_before, left_out, nothing_begun, prints_before, text_said, text_started, total_said, total_started}
use Rattle.cs_lines.proofs.PlaceLemmas.{ok_map}
use Rattle.cs_lines.proofs.ReadLemmas.{ends_before}
use Rattle.cs_lines.specs.Work.{Takes}
use Rattle.cs_lines.proofs.WorkLemmas.{file_left, file_read}
use Rattle.cs_lines.proofs.source.print_file.Goals as goal

pub returns-in_err-ended-in-Err-clause-begins : goal.returns-in_err-ended-in-Err-clause-begins
returns-in_err-ended-in-Err-clause-begins g c =
    nothing_begun c.args.search.now c.add_steps.new.self c.args.page.now c.args.binary (given c.args.out.now) (g.R.Source.model c.args.input.now)

pub returns-in-Err-clause-begins : goal.returns-in-Err-clause-begins
returns-in-Err-clause-begins g c =
    nothing_begun c.args.search.now c.add_steps.new.self c.args.page.now c.args.binary (given c.args.out.now) (g.R.Source.model c.args.input.now)

pub returns-in-WithoutMatch-clause-begins : goal.returns-in-WithoutMatch-clause-begins
returns-in-WithoutMatch-clause-begins g c =
    nothing_begun c.args.search.now c.add_steps.new.self c.args.page.now c.args.binary (given c.args.out.now) (g.R.Source.model c.args.input.now)

pub returns-in-WithoutMatch-clause-text : goal.returns-in-WithoutMatch-clause-text
returns-in-WithoutMatch-clause-text g c =
    left_out c.args.search.now c.add_steps.new.self c.args.page.now c.args.binary (given c.args.out.now) (pending_bytes c.begin_with-begun.new.self)
    (g.R.Source.model c.args.input.now) c.in-Ok.ensures.first.1 (c.in-WithoutMatch.ensures ∙ ap (searched_as c.args.binary) c.pending-2.ensures)

pub returns-in-Binary-clause-text : goal.returns-in-Binary-clause-text
returns-in-Binary-clause-text g c =
    let first = c.in-Ok.ensures.first in
    let is = sym (c.in-Binary.ensures ∙ ap (searched_as c.args.binary) c.pending-2.ensures) in
    ok_map c.stream_total.result (λ streamed total.
    prints_before c.args.search.now c.add_steps.new.self c.stream_total.new.search c.add_steps.ensures.same c.args.page.now c.args.binary (g.R.Source.model c.args.input.now)
    (given c.args.out.now) (given c.stream_total.new.out) streamed
    (total_said c.add_steps.new.self c.stream_total.new.search c.args.page.now c.args.binary (given c.args.out.now) (pending_bytes c.begin_with-begun.new.self)
    (given c.stream_total.new.out) (g.R.Source.model c.args.input.now) (g.R.Source.model c.begin_with-begun.new.input) first.0 first.1
    c.begin_with-begun.new.self.left streamed is total).0) c.stream_total.ensures.text

pub returns-in-Binary-clause-found : goal.returns-in-Binary-clause-found
returns-in-Binary-clause-found g c =
    let first = c.in-Ok.ensures.first in
    let is = sym (c.in-Binary.ensures ∙ ap (searched_as c.args.binary) c.pending-2.ensures) in
    ok_map c.stream_total.result (λ streamed total.
    finds_before c.args.search.now c.add_steps.new.self c.stream_total.new.search c.add_steps.ensures.same c.args.page.now c.args.binary (g.R.Source.model c.args.input.now) streamed
    (total_said c.add_steps.new.self c.stream_total.new.search c.args.page.now c.args.binary (given c.args.out.now) (pending_bytes c.begin_with-begun.new.self)
    (given c.stream_total.new.out) (g.R.Source.model c.args.input.now) (g.R.Source.model c.begin_with-begun.new.input) first.0 first.1
    c.begin_with-begun.new.self.left streamed is total).1) c.stream_total.ensures.text

pub returns-in-Binary-clause-begins : goal.returns-in-Binary-clause-begins
returns-in-Binary-clause-begins g c =
    let first = c.in-Ok.ensures.first in
    begins_before c.args.search.now c.add_steps.new.self c.stream_total.new.search c.add_steps.ensures.same c.args.page.now c.args.binary (g.R.Source.model c.args.input.now) (given c.args.out.now)
    (given c.stream_total.new.out)
    (total_started c.add_steps.new.self c.stream_total.new.search c.args.page.now c.args.binary (given c.args.out.now) (pending_bytes c.begin_with-begun.new.self)
    (given c.stream_total.new.out) (g.R.Source.model c.args.input.now) (g.R.Source.model c.begin_with-begun.new.input) first.0 first.1
    c.begin_with-begun.new.self.left c.stream_total.result (sym (c.in-Binary.ensures ∙ ap (searched_as c.args.binary) c.pending-2.ensures))
    c.stream_total.ensures.text c.stream_total.ensures.begins)

pub returns-in-Text-clause-text : goal.returns-in-Text-clause-text
returns-in-Text-clause-text g c =
    let first = c.in-Ok.ensures.first in
    let is = sym (c.in-Text.ensures ∙ ap (searched_as c.args.binary) c.pending-2.ensures) in
    ok_map c.print_source.result (λ streamed text.
    prints_before c.args.search.now c.add_steps.new.self c.print_source.new.search c.add_steps.ensures.same c.args.page.now c.args.binary (g.R.Source.model c.args.input.now)
    (given c.args.out.now) (given c.print_source.new.out) streamed
    (text_said c.add_steps.new.self c.print_source.new.search c.args.page.now c.args.binary (given c.args.out.now) (pending_bytes c.begin_with-begun.new.self)
    (given c.print_source.new.out) (g.R.Source.model c.args.input.now) (g.R.Source.model c.begin_with-begun.new.input) first.0 first.1
    c.begin_with-begun.new.self.left streamed is text).0) c.print_source.ensures.text

pub returns-in-Text-clause-found : goal.returns-in-Text-clause-found
returns-in-Text-clause-found g c =
    let first = c.in-Ok.ensures.first in
    let is = sym (c.in-Text.ensures ∙ ap (searched_as c.args.binary) c.pending-2.ensures) in
    ok_map c.print_source.result (λ streamed text.
    finds_before c.args.search.now c.add_steps.new.self c.print_source.new.search c.add_steps.ensures.same c.args.page.now c.args.binary (g.R.Source.model c.args.input.now) streamed
    (text_said c.add_steps.new.self c.print_source.new.search c.args.page.now c.args.binary (given c.args.out.now) (pending_bytes c.begin_with-begun.new.self)
    (given c.print_source.new.out) (g.R.Source.model c.args.input.now) (g.R.Source.model c.begin_with-begun.new.input) first.0 first.1
    c.begin_with-begun.new.self.left streamed is text).1) c.print_source.ensures.text

pub returns-in-Text-clause-begins : goal.returns-in-Text-clause-begins
returns-in-Text-clause-begins g c =
    let first = c.in-Ok.ensures.first in
    begins_before c.args.search.now c.add_steps.new.self c.print_source.new.search c.add_steps.ensures.same c.args.page.now c.args.binary (g.R.Source.model c.args.input.now) (given c.args.out.now)
    (given c.print_source.new.out)
    (text_started c.add_steps.new.self c.print_source.new.search c.args.page.now c.args.binary (given c.args.out.now) (pending_bytes c.begin_with-begun.new.self)
    (given c.print_source.new.out) (g.R.Source.model c.args.input.now) (g.R.Source.model c.begin_with-begun.new.input) first.0 first.1
    c.begin_with-begun.new.self.left c.print_source.result (sym (c.in-Text.ensures ∙ ap (searched_as c.args.binary) c.pending-2.ensures))
    c.print_source.ensures.text c.print_source.ensures.begins)

pub returns-in_err-ended-in-Err-clause-work : goal.returns-in_err-ended-in-Err-clause-work
returns-in_err-ended-in-Err-clause-work g c =
    file_left c.args.page.now.options.now c.args.search.now c.add_steps.new.self (pending_bytes c.begin_with-begun.new.self) (2 ^ 62)
    (g.R.Source.model c.args.input.now)
    (subst (λ (first : List ℕ). Takes (length first + 1) c.args.search.now c.add_steps.new.self) c.pending.ensures c.add_steps.ensures.work)
    (g.R.Source.model c.begin_with-begun.new.input) c.begin_with-begun.ensures.read

pub returns-in-Err-clause-work : goal.returns-in-Err-clause-work
returns-in-Err-clause-work g c =
    file_left c.args.page.now.options.now c.args.search.now c.add_steps.new.self (pending_bytes c.begin_with-begun.new.self) (2 ^ 62)
    (g.R.Source.model c.args.input.now)
    (subst (λ (first : List ℕ). Takes (length first + 1) c.args.search.now c.add_steps.new.self) c.pending.ensures c.add_steps.ensures.work)
    (g.R.Source.model c.begin_with-begun.new.input) c.begin_with-begun.ensures.read

pub returns-in-WithoutMatch-clause-work : goal.returns-in-WithoutMatch-clause-work
returns-in-WithoutMatch-clause-work g c =
    file_left c.args.page.now.options.now c.args.search.now c.add_steps.new.self (pending_bytes c.begin_with-begun.new.self) (2 ^ 62)
    (g.R.Source.model c.args.input.now)
    (subst (λ (first : List ℕ). Takes (length first + 1) c.args.search.now c.add_steps.new.self) c.pending.ensures c.add_steps.ensures.work)
    (g.R.Source.model c.begin_with-begun.new.input) c.begin_with-begun.ensures.read

pub returns-in-Binary-clause-work : goal.returns-in-Binary-clause-work
returns-in-Binary-clause-work g c =
    file_read c.args.page.now.options.now c.args.search.now c.add_steps.new.self (pending_bytes c.begin_with-begun.new.self) (2 ^ 62)
    (g.R.Source.model c.args.input.now)
    (subst (λ (first : List ℕ). Takes (length first + 1) c.args.search.now c.add_steps.new.self) c.pending.ensures c.add_steps.ensures.work)
    c.stream_total.new.search c.begin_with-begun.new.self.left (g.R.Source.model c.begin_with-begun.new.input) (g.R.Source.model c.stream_total.new.input)
    c.add_steps.ensures.same c.in-Ok.ensures.first.0 c.in-Ok.ensures.room c.stream_total.ensures.work

pub returns-in-Text-clause-work : goal.returns-in-Text-clause-work
returns-in-Text-clause-work g c =
    file_read c.args.page.now.options.now c.args.search.now c.add_steps.new.self (pending_bytes c.begin_with-begun.new.self) (2 ^ 62)
    (g.R.Source.model c.args.input.now)
    (subst (λ (first : List ℕ). Takes (length first + 1) c.args.search.now c.add_steps.new.self) c.pending.ensures c.add_steps.ensures.work)
    c.print_source.new.search c.begin_with-begun.new.self.left (g.R.Source.model c.begin_with-begun.new.input) (g.R.Source.model c.print_source.new.input)
    c.add_steps.ensures.same c.in-Ok.ensures.first.0 c.in-Ok.ensures.room c.print_source.ensures.work

pub returns-in-Binary-clause-ended : goal.returns-in-Binary-clause-ended
returns-in-Binary-clause-ended g c =
    ok_map c.stream_total.result (λ streamed.
    ends_before (pending_bytes c.begin_with-begun.new.self) c.begin_with-begun.new.self.left (2 ^ 62) streamed.ended (g.R.Source.model c.args.input.now)
    (g.R.Source.model c.begin_with-begun.new.input) c.in-Ok.ensures.first.0 c.in-Ok.ensures.room) c.stream_total.ensures.ended

pub returns-in-Text-clause-ended : goal.returns-in-Text-clause-ended
returns-in-Text-clause-ended g c =
    ok_map c.print_source.result (λ streamed.
    ends_before (pending_bytes c.begin_with-begun.new.self) c.begin_with-begun.new.self.left (2 ^ 62) streamed.ended (g.R.Source.model c.args.input.now)
    (g.R.Source.model c.begin_with-begun.new.input) c.in-Ok.ensures.first.0 c.in-Ok.ensures.room) c.print_source.ensures.ended
