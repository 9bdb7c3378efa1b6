use Rattle.std.proofs.Common.{◌≡◌, length}
use Rattle.cs_command.specs.Patterns.{has_capital, has_capital_after}
use Rattle.cs_command.proofs.patterns.has_capital.Given as goal

-- the bytes that are left have a capital letter if and only if all have one
abbrev pub invariant-bytes : goal.invariant-bytes
invariant-bytes l = has_capital l.literal l.text ≡ has_capital_after l.literal l.escaped l.rest

abbrev pub decreases-bytes : goal.decreases-bytes
decreases-bytes l = length l.rest
