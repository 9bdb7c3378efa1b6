use Rattle.std.proofs.Common.{rules, ◌≡◌, ap, sym, subst, ◌∙◌}
use Rattle.cs_tree.specs.Failures.{count_if}
use Rattle.cs_tree.specs.FailureCount.{count_after}
use Rattle.cs_tree.specs.SinkOutputs.{failures_after}
use Rattle.cs_search.specs.GrepFaults.{answer_of, has_read_failed, is_grep_failure}
use Rattle.cs_search.specs.GrepReports.{ReportsBy}
use Rattle.cs_search.specs.InputReport.{input_report}
use Rattle.cs_search.proofs.AnswerLemmas.{as_left, page_of, input_answered, new_handed, read_work, reads_counted, writes_counted}
use Rattle.cs_search.proofs.report.grep_within.Goals as goal

pub returns-clause-report : goal.returns-clause-report
returns-clause-report g c = λ tree is.
    let new = c.new-sink.ensures in
    let p = c.print_input-printed in
    let printer = c.args.printer.now in
    let out = c.args.out.now in
    let model = g.R.Source.model c.args.input.now in
    let report = input_report c.args.limit printer.style printer.name.now in
    let handed = p.ensures.handed.handed (g.O.Sink.model out)
    (new_handed g.O.Sink.model c.new-sink.result out new.sink new.given new.fault) in
    as_left (λ o. ReportsBy tree model report (g.O.Sink.model out) (g.O.Sink.model o) c.answer_of.result) p.new.out.sink.now _ (search rules)
    (subst (λ result. ReportsBy tree model report (g.O.Sink.model out) (g.O.Sink.model p.new.out.sink.now) result)
    (ap (λ f. answer_of f p.result) (sym c.fault.ensures) ∙ sym c.answer_of.ensures)
    (input_answered printer.style (page_of c.args.printer c.options_of-options.result) c.options_of-options.ensures tree _ _
    new.given (g.O.Sink.model out) (g.O.Sink.model p.new.out.sink.now) p.new.out.fault handed c.args.limit model p.result
    (p.ensures.text tree is) (p.ensures.begins tree is)))

pub returns-clause-counts : goal.returns-clause-counts
returns-clause-counts g c =
    let new = c.new-sink.ensures in
    let p = c.print_input-printed in
    let reads = g.R.Source.failed c.args.input.now in
    let writes = g.O.Sink.failed c.args.out.now in
    let is = ap (λ f. answer_of f p.result) (sym c.fault.ensures) ∙ sym c.answer_of.ensures in
    let wrote = p.ensures.handed.counted writes (ap g.O.Sink.failed new.sink ∙ sym (ap (λ f. failures_after f writes) new.fault)) in (
      reads_counted p.new.out.fault p.result _ _ p.ensures.failed (λ failed. p.ensures.alone failed new.fault)
          ∙ ap (λ r. count_if (has_read_failed r) reads) is,
      as_left (λ o. g.O.Sink.failed o ≡ count_after is_grep_failure c.answer_of.result writes) p.new.out.sink.now _ (search rules)
          (writes_counted p.new.out.fault p.result _ _ wrote ∙ ap (λ r. count_after is_grep_failure r writes) is),
    )

pub returns-clause-work : goal.returns-clause-work
returns-clause-work g c =
    read_work c.args.printer.now.style (page_of c.args.printer c.options_of-options.result) c.options_of-options.ensures
    c.args.search.now c.print_input-printed.new.search c.args.limit (g.R.Source.model c.args.input.now)
    (g.R.Source.model c.print_input-printed.new.input) c.print_input-printed.ensures.work
