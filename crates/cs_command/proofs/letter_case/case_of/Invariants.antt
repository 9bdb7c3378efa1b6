use Rattle.std.proofs.Common.{◌≡◌, length}
use Rattle.cs_command.specs.LetterCase.{case_after, case_of}
use Rattle.cs_command.proofs.letter_case.case_of.Given as goal

-- the items that are left say what all say
abbrev pub invariant-items : goal.invariant-items
invariant-items l = case_of l.items ≡ case_after l.case l.rest

abbrev pub decreases-items : goal.decreases-items
decreases-items l = length l.rest
