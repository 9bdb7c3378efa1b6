use Rattle.std.proofs.Common.{rules, ◌≡◌, ap, sym, subst, ◌∙◌}
use Rattle.cs_tree.specs.FailureCount.{count_after}
use Rattle.cs_tree.specs.SinkOutputs.{failures_after}
use Rattle.cs_search.specs.GrepFaults.{answer_of, is_grep_failure, streamed_as}
use Rattle.cs_search.specs.GrepReports.{IsReportedBy, text_report}
use Rattle.cs_search.proofs.AnswerLemmas.{as_left, page_of, new_handed, text_answered, text_work, writes_counted}
use Rattle.cs_search.proofs.report.grep_text.Goals as goal

pub returns-clause-report : goal.returns-clause-report
returns-clause-report g c = λ tree is.
    let new = c.new-sink.ensures in
    let p = c.print_text in
    let printer = c.args.printer.now in
    let text = c.args.text.now in
    let out = c.args.out.now in
    let handed = p.ensures.handed.handed (g.O.Sink.model out)
    (new_handed g.O.Sink.model c.new-sink.result out new.sink new.given new.fault) in
    as_left (λ o. IsReportedBy tree (λ has_match. text_report printer.style printer.name.now has_match text)
    (g.O.Sink.model out) (g.O.Sink.model o) c.answer_of.result) p.new.out.sink.now _ (search rules)
    (subst (λ result. IsReportedBy tree (λ has_match. text_report printer.style printer.name.now has_match text)
    (g.O.Sink.model out) (g.O.Sink.model p.new.out.sink.now) result)
    (ap (λ f. answer_of f (streamed_as p.result)) (sym c.fault.ensures) ∙ ap (answer_of c.fault.result) (sym c.whole-printed.ensures)
    ∙ sym c.answer_of.ensures)
    (text_answered printer.style (page_of c.args.printer c.options_of-options.result) c.options_of-options.ensures tree _ _
    new.given (g.O.Sink.model out) (g.O.Sink.model p.new.out.sink.now) p.new.out.fault handed text p.result
    (p.ensures.text tree is) (p.ensures.begins tree is)))

pub returns-clause-failed : goal.returns-clause-failed
returns-clause-failed g c =
    let new = c.new-sink.ensures in
    let p = c.print_text in
    let writes = g.O.Sink.failed c.args.out.now in
    let wrote = p.ensures.handed.counted writes (ap g.O.Sink.failed new.sink ∙ sym (ap (λ f. failures_after f writes) new.fault)) in
    as_left (λ o. g.O.Sink.failed o ≡ count_after is_grep_failure c.answer_of.result writes) p.new.out.sink.now _ (search rules)
    (writes_counted p.new.out.fault c.whole-printed.result _ _ wrote
    ∙ ap (λ f. count_after is_grep_failure (answer_of f c.whole-printed.result) writes) (sym c.fault.ensures)
    ∙ ap (λ r. count_after is_grep_failure r writes) (sym c.answer_of.ensures))

pub returns-clause-work : goal.returns-clause-work
returns-clause-work g c =
    text_work c.args.printer.now.style (page_of c.args.printer c.options_of-options.result) c.options_of-options.ensures
    c.args.search.now c.print_text.new.search c.args.text.now c.print_text.ensures.work
