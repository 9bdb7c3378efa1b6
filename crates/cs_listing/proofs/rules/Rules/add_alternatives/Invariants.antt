use Rattle.std.proofs.Common.{◌≡◌, ◌++◌, map, take}
use Rattle.std.specs.Prelude.{filter_map}
use Rattle.cs_listing.specs.RuleFiles.{rule_saying}
use Rattle.cs_listing.specs.Models.{texts_of, rule_of}
use Rattle.cs_listing.proofs.rules.Rules.add_alternatives.Given as goal

-- the rules of the globs so far are added
abbrev pub invariant-loop-glob : goal.invariant-loop-glob
invariant-loop-glob l = map rule_of l.self.rules.items
    ≡ map rule_of l.initial.self.rules.items ++ filter_map (rule_saying l.decision) (texts_of (take l.glob-index l.glob-items))
