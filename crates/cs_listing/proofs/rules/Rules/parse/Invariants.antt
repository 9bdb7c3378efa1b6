use Rattle.std.proofs.Common.{◌≡◌, map}
use Rattle.std.specs.Prelude.{filter_map}
use Rattle.cs_listing.specs.RuleFiles.{rule_of_line}
use Rattle.cs_listing.specs.Models.{names, rule_of}
use Rattle.cs_listing.proofs.rules.Rules.parse.Given as goal

-- the rules of the lines so far
abbrev pub invariant-loop-line : goal.invariant-loop-line
invariant-loop-line l = map rule_of l.rules.rules.items ≡ filter_map rule_of_line (names l.yielded)
