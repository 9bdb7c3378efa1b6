use Rattle.std.proofs.Common.{rules, tests, eqb, ap, ◌∙◌}
use Rattle.std.specs.Prelude.{filter_map}
use Rattle.std.proofs.lemmas.Iterator.Splits.{YieldsList-from_slice_split}
use Rattle.std.proofs.lemmas.Iterator.Consumers.{YieldsList-end}
use Rattle.cs_listing.specs.RuleFiles.{rule_of_line, without_mark}
use Rattle.cs_listing.proofs.RuleLemmas.{line_more}
use Rattle.cs_listing.proofs.rules.Rules.parse.Goals as goal

pub loop-line-preserved : goal.loop-line-preserved
loop-line-preserved c =
    line_more c.loop-line.rules.rules.items c.add_line.new.self.rules.items c.loop-line.yielded c.in-Some.line c.loop-line.invariant c.in_ok-add_line.ensures

pub returns : goal.returns
returns c =
    let lines = YieldsList-end (YieldsList-from_slice_split _ (λ b. eqb b 10) (without_mark c.args.bytes.now) (cc) (cc) (cc) (λ x b q k. search (rules, tests)))
    c.loop-line.yielded _ c.loop-line.yielded_by _ _ c.in-None.is c.next.ensures.steps in
    c.loop-line.invariant ∙ ap (filter_map rule_of_line) lines.0
