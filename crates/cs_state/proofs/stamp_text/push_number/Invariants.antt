use Rattle.std.proofs.Common.{◌≡◌, ◌-◌, ◌++◌, string_bytes}
use Rattle.cs_state.specs.StampedNames.{number_text, number_within}
use Rattle.cs_state.proofs.stamp_text.push_number.Given as goal

-- the digits so far, and what is left of the number
abbrev pub invariant-digits : goal.invariant-digits
invariant-digits l =
    string_bytes l.name ++ number_within (11 - l._digit) l.left ≡ string_bytes l.fn.name ++ number_text l.fn.n
