use Rattle.std.proofs.Common.{sym, ap, arith, ◌∙◌, ◌-◌}
use Rattle.cs_tree.specs.declared.steps.Steps.{Steps}
use Rattle.cs_listing.specs.Models.{names}
use Rattle.cs_listing.specs.Marks.{name_marks}
use Rattle.cs_listing.proofs.MarkLemmas.{asked_more, asked_skipped, asked_found}
use Rattle.cs_listing.proofs.rules.Rules.decide_by_marks.Goals.{else-marks-index-via-then-marks-index+else-applies, else-marks-index-via-else-marks-index}
use Rattle.cs_listing.proofs.rules.Rules.decide_by_marks.Goals as goal

pub returns-then-applies-clause-decides : goal.returns-then-applies-clause-decides
returns-then-applies-clause-decides c =
    (asked_found c.args.self.now.rules.items (names c.args.path.now) c.args.is_folder c.rules.at (c.rules.at - 1)
    c.args.steps.now.count c.rules.steps.count c.index-rule.result.now c.rules.invariant (omega (arith, c.rules-test.true))
    c.index-rule.ensures c.applies.new.steps.count (sym c.applies.ensures.applies ∙ c.if-applies.true) c.applies.ensures.work).0

pub returns-then-applies-clause-work : goal.returns-then-applies-clause-work
returns-then-applies-clause-work c =
    let found = asked_found c.args.self.now.rules.items (names c.args.path.now) c.args.is_folder c.rules.at (c.rules.at - 1)
    c.args.steps.now.count c.rules.steps.count c.index-rule.result.now c.rules.invariant (omega (arith, c.rules-test.true))
    c.index-rule.ensures c.applies.new.steps.count (sym c.applies.ensures.applies ∙ c.if-applies.true) c.applies.ensures.work in
    (found.1, found.2)

pub rules-preserved : goal.rules-preserved
rules-preserved c =
    let rules = c.args.self.now.rules.items in
    let path = names c.args.path.now in
    let start = c.args.steps.now.count in
    elim c.else-marks-index.branch [
      | else-marks-index-via-then-marks-index+else-applies w ↦
          let same = ap (λ (s : Steps). s.count) w.steps-is in
          asked_more rules path c.args.is_folder c.rules.at (c.rules.at - 1) start c.rules.steps.count c.index-rule.result.now
          c.rules.invariant (omega (arith, c.rules-test.true)) c.index-rule.ensures c.else-marks-index.steps.count
          (sym w.applies.ensures.applies ∙ w.if-applies.false)
          (omega (arith, same, w.applies.ensures.work.0), omega (arith, same, w.applies.ensures.work.1))
      | else-marks-index-via-else-marks-index w ↦
          let same = ap (λ (s : Steps). s.count) w.steps-is in
          asked_skipped rules path c.args.is_folder c.rules.at (c.rules.at - 1) start c.rules.steps.count c.index-rule.result.now
          c.rules.invariant (omega (arith, c.rules-test.true)) c.index-rule.ensures c.name_marks-marks.result c.index.result.now
          c.else-marks-index.steps.count c.args.self.now.marks.items
          (c.name_marks-marks.ensures ∙ ap name_marks c.last_name.ensures) c.args.self.now.marked c.index.ensures
          w.if-marks-index.false (omega (arith, same))
    ]
