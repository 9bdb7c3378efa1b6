use Rattle.std.proofs.Common.{◌≡◌, ◌++◌, map}
use Rattle.std.specs.Prelude.{filter_map}
use Rattle.cs_listing.specs.RuleFiles.{rule_saying}
use Rattle.cs_listing.specs.Models.{names, rule_of}
use Rattle.cs_listing.proofs.rules.Rules.add_all.Given as goal

-- the rules of the texts so far are added
abbrev pub invariant-loop-text : goal.invariant-loop-text
invariant-loop-text l = map rule_of l.self.rules.items
    ≡ map rule_of l.initial.self.rules.items ++ filter_map (rule_saying l.decision) (names l.yielded)
