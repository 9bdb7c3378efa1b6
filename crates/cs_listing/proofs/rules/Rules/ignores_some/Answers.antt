use Rattle.std.proofs.Common.{rules, tests, sym, ◌∙◌}
use Rattle.std.proofs.lemmas.Iterator.{YieldsList-from_slice}
use Rattle.std.proofs.lemmas.Iterator.Search.{any_from_yields_List}
use Rattle.cs_tree.proofs.NameLemmas.{list_any-map}
use Rattle.cs_listing.specs.Choices.{is_ignore, takes}
use Rattle.cs_listing.specs.Models.{rule_of}
use Rattle.cs_listing.specs.declared.rules.Rule.{Rule}
use Rattle.cs_listing.proofs.rules.Rules.ignores_some.Goals as goal

pub returns : goal.returns
returns c =
    any_from_yields_List (λ (rule : Rule). is_ignore rule.decision) _ _ _ c.any.ensures.ran
    (YieldsList-from_slice c.args.self.now.rules.items cc) (λ x b q k. search (rules, tests))
    ∙ sym (list_any-map rule_of takes c.args.self.now.rules.items)
