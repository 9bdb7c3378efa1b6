use Rattle.std.proofs.Common.{ℕ, [], ◌∷◌, true, false, not, refl}
use Rattle.std.specs.Prelude.{nat_eq}
use Rattle.cs_syntax.proofs.CharRangeLemmas.{set_of_test, newline_char, xor-true}
use Rattle.cs_syntax.proofs.classes.dot.Goals as goal

pub returns-then-dot_all : goal.returns-then-dot_all
returns-then-dot_all c = rw c.if-dot_all.true
    (set_of_test [] true c.of_ranges.result (λ (x : ℕ). false) (λ x. true) (λ x. xor-true false) c.of_ranges.ensures
    (λ x. refl))

pub returns-else-dot_all : goal.returns-else-dot_all
returns-else-dot_all c =
    rw c.if-dot_all.false (set_of_test ((10, 10) ∷ []) true c.of_ranges-else-dot_all.result (λ (x : ℕ). nat_eq x 10)
    (λ x. not (nat_eq x 10)) (λ x. xor-true (nat_eq x 10)) c.of_ranges-else-dot_all.ensures newline_char)
