use Rattle.std.proofs.Common.{rules, tests, eqb, ◌++◌, map, ap, ◌∙◌}
use Rattle.std.specs.Prelude.{filter_map}
use Rattle.std.proofs.lemmas.Iterator.Splits.{YieldsList-from_slice_split}
use Rattle.std.proofs.lemmas.Iterator.Consumers.{YieldsList-end}
use Rattle.cs_listing.specs.RuleFiles.{rule_saying}
use Rattle.cs_listing.specs.Models.{rule_of}
use Rattle.cs_listing.proofs.RuleLemmas.{saying_more}
use Rattle.cs_listing.proofs.rules.Rules.add_all.Goals as goal

pub loop-text-preserved : goal.loop-text-preserved
loop-text-preserved c =
    saying_more c.args.decision c.args.self.now.rules.items c.loop-text.self.rules.items c.add_rule.new.self.rules.items c.loop-text.yielded
    c.in-Some.text c.loop-text.invariant c.in_ok-add_rule.ensures

pub returns : goal.returns
returns c =
    let texts = YieldsList-end (YieldsList-from_slice_split _ (λ b. eqb b 32) c.args.texts.now (cc) (cc) (cc) (λ x b q k. search (rules, tests)))
    c.loop-text.yielded _ c.loop-text.yielded_by _ _ c.in-None.is c.next.ensures.steps in
    c.loop-text.invariant ∙ ap (λ ts. map rule_of c.args.self.now.rules.items ++ filter_map (rule_saying c.args.decision) ts) texts.0
