use Rattle.std.proofs.Common.{◌≡◌, ◌+◌, ◌*◌, ℕ, List, length, get_or, ap, ◌∙◌, arith, inl, inr}
use Rattle.std.proofs.lemmas.Bool.{cases_eq}
use Rattle.cs_match.specs.declared.byte_classes.ByteClasses.{ByteClasses}
use Rattle.cs_match.specs.LazyDfa.{until_newline}
use Rattle.cs_match.proofs.TransitionLemmas.{stays_in_line, leaves_at_end}
use Rattle.cs_match.proofs.dfa.write_first.Goals as goal

-- a state that stays at the newline too
stays : (classes : ByteClasses) (next c : ℕ) → until_newline classes next next c ≡ next
stays classes next c =
    elim (cases_eq c (get_or classes.of 10 0)) [
      | inl e ↦ leaves_at_end classes next next c e
      | inr other ↦ stays_in_line classes next next c other
    ]

at : (xs : List ℕ) (i k : ℕ) → i ≡ k → get_or xs i 0 ≡ get_or xs k 0
at xs i k e = ap (λ n. get_or xs n 0) e

pub returns-clause-rows : goal.returns-clause-rows
returns-clause-rows c =
    let classes = c.args.classes.now in
    let n = classes.count in
    let a = c.push_row.ensures in
    let b = c.push_row-2.ensures in
    let d = c.push_row-3.ensures in
    let e = c.push_row-4.ensures in
    let f = c.push_row-5.ensures in
    let none : length c.clear.new.self.items ≡ 0 = ap (λ (xs : List ℕ). length xs) c.clear.ensures.items in
    let to-a : length c.push_row.new.transitions.items ≡ n = omega (arith, a.len, none) in
    let to-b : length c.push_row-2.new.transitions.items ≡ 2 * n = omega (arith, b.len, to-a) in
    let to-d : length c.push_row-3.new.transitions.items ≡ 3 * n = omega (arith, d.len, to-b) in
    let to-e : length c.push_row-4.new.transitions.items ≡ 4 * n = omega (arith, e.len, to-d) in
    record {
      all = omega (arith, f.len, to-e);
      special = record {
        at_unknown = λ k lt.
            f.kept (n + k) (omega (arith, to-e, lt)) ∙ e.kept (n + k) (omega (arith, to-d, lt)) ∙ d.kept (n + k) (omega (arith, to-b, lt))
            ∙ at c.push_row-2.new.transitions.items (n + k) (length c.push_row.new.transitions.items + k) (omega (arith, to-a))
            ∙ b.row k lt ∙ stays classes n k;
        at_match = λ k lt.
            f.kept (2 * n + k) (omega (arith, to-e, lt)) ∙ e.kept (2 * n + k) (omega (arith, to-d, lt))
            ∙ at c.push_row-3.new.transitions.items (2 * n + k) (length c.push_row-2.new.transitions.items + k) (omega (arith, to-b))
            ∙ d.row k lt;
        at_dead = λ k lt.
            f.kept (3 * n + k) (omega (arith, to-e, lt))
            ∙ at c.push_row-4.new.transitions.items (3 * n + k) (length c.push_row-3.new.transitions.items + k) (omega (arith, to-d))
            ∙ e.row k lt;
      };
      at_found = λ k lt.
          f.kept k (omega (arith, to-e, lt)) ∙ e.kept k (omega (arith, to-d, lt)) ∙ d.kept k (omega (arith, to-b, lt))
          ∙ b.kept k (omega (arith, to-a, lt))
          ∙ at c.push_row.new.transitions.items k (length c.clear.new.self.items + k) (omega (arith, none))
          ∙ a.row k lt ∙ stays classes n k;
      at_start = λ k lt.
          at c.push_row-5.new.transitions.items (4 * n + k) (length c.push_row-4.new.transitions.items + k) (omega (arith, to-e))
          ∙ f.row k lt ∙ stays classes n k;
    }
