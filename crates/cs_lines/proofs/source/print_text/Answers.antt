use Rattle.std.proofs.Common.{◌≡◌, ℕ, false, nat_lt, ◌++◌, ap, subst, sym, ◌∙◌}
use Rattle.cs_lines.specs.Counts.{CountsText, limit_by}
use Rattle.cs_lines.specs.Findings.{has_stopped, of_lines}
use Rattle.cs_tree.specs.SinkOutputs.{given}
use Rattle.cs_lines.specs.Shown.{between, following, total_groups}
use Rattle.cs_lines.specs.Streams.{TextBegun, TextShown}
use Rattle.cs_lines.proofs.FindingLemmas.{lines_found, never_stopped, tree_in}
use Rattle.cs_lines.proofs.PlaceLemmas.{err_map, ok_map}
use Rattle.cs_lines.proofs.SourceLemmas.{total_shown}
use Rattle.cs_lines.specs.Work.{input_work, line_weight, shown_work}
use Rattle.cs_lines.proofs.WorkLemmas.{input_fewer, works_fewer}
use Rattle.cs_lines.proofs.source.print_text.Goals as goal

pub returns-in-Lines-clause-text : goal.returns-in-Lines-clause-text
returns-in-Lines-clause-text g c = λ tree is.
    let s1 = c.print_lines.new.search in
    let none : has_stopped s1 ≡ false = never_stopped s1 (c.print_lines.ensures.same.1 ∙ ap tree_in is.1) in
    ok_map c.print_lines.result (λ here h has_match decides.
    subst (λ m. TextShown c.args.page.now (of_lines has_match) c.args.text.now (given c.args.out.now) (given c.print_lines.new.out) m here) (sym c.in-Lines.is)
    (h none (of_lines has_match) (lines_found c.args.search.now tree has_match is decides))) c.print_lines.ensures.text

pub returns-in-Lines-clause-begins : goal.returns-in-Lines-clause-begins
returns-in-Lines-clause-begins g c = λ tree is.
    let s1 = c.print_lines.new.search in
    let none : has_stopped s1 ≡ false = never_stopped s1 (c.print_lines.ensures.same.1 ∙ ap tree_in is.1) in
    err_map c.print_lines.result (λ h has_match decides.
    subst (λ m. TextBegun c.args.page.now (of_lines has_match) c.args.text.now (given c.args.out.now) (given c.print_lines.new.out) m) (sym c.in-Lines.is)
    (h none (of_lines has_match) (lines_found c.args.search.now tree has_match is decides))) c.print_lines.ensures.begins

pub returns-in-Counts-clause-text : goal.returns-in-Counts-clause-text
returns-in-Counts-clause-text g c = λ tree is has_match decides.
    let page = c.args.page.now in
    let options = page.options.now in
    let text = c.args.text.now in
    let finding = of_lines has_match in
    let counts : CountsText c.args.search.now options (limit_by options.mode options.most) text c.text_count-count.result =
    subst (λ l. CountsText c.args.search.now options l text c.text_count-count.result) c.limit.ensures c.text_count-count.ensures.count in
    total_shown page finding text (given c.args.out.now) (given c.print_total.new.out) c.text_count-count.result c.has_some.result
    (counts finding (lines_found c.args.search.now tree has_match is decides).0)
    (c.has_some.ensures ∙ ap (nat_lt 0) c.at_most-count.ensures)
    (c.print_total.ensures.0 ∙ ap (λ (n : ℕ). given c.args.out.now ++ following (between options) page.begun (total_groups options page.name.now options.mode n)) c.at_most-count.ensures)
    options.mode c.in-Counts.is

pub returns-in-Counts-clause-work : goal.returns-in-Counts-clause-work
returns-in-Counts-clause-work g c =
    let options = c.args.page.now.options.now in
    let w = line_weight c.args.search.now in
    let text = c.args.text.now in
    works_fewer (input_work w text) (shown_work options w text) c.args.search.now.matcher c.text_count-count.new.search.matcher (input_fewer options w text)
    c.text_count-count.ensures.work
