use Rattle.std.proofs.Common.{◌≡◌, ◌-◌, ◌++◌, ℕ, List}
use Rattle.std.specs.Prelude.{◌↔◌}
use Rattle.cs_state.specs.StampedNames.{number_text, number_within}
use Rattle.cs_state.proofs.stamp_text.after_number.Given as goal

-- what is left of the text begins with what is left of the number where the text begins with the number
abbrev pub invariant-digits : goal.invariant-digits
invariant-digits l = (more : List ℕ) →
    (l.fn.text ≡ number_text l.fn.n ++ more) ↔ (l.rest ≡ number_within (11 - l._digit) l.left ++ more)
