-- What a scan sees of a correct table.
use Rattle.std.proofs.Common.{◌≡◌, ◌≢◌, ℕ, suc, ◌+◌, ◌*◌, ◌/◌, ◌<◌, ◌≤◌, ◌⊎◌, inl, inr, Bool, true, false, nat_eq, List, [], ◌∷◌, ◌++◌, length, get_or, refl, sym, ◌∙◌, ap, subst, arith}
use Rattle.std.proofs.Math.Nat.{le_of_mul-le-mul_right}
use Rattle.std.proofs.lemmas.Bool.{false_from_ne_true, eqb-false}
use Rattle.std.proofs.lemmas.List.Elements.{All-nil, All-cons, All-head, All-tail, All-append}
use Rattle.cs_syntax.specs.Matching.{Tree}
use Rattle.cs_tree.specs.ByteList.{AreBytes}
use Rattle.cs_match.specs.declared.byte_classes.ByteClasses.{ByteClasses}
use Rattle.cs_match.specs.declared.state.State.{State}
use Rattle.cs_match.specs.declared.lanes.Table.{Table}
use Rattle.cs_match.specs.ByteClasses.{AreClasses}
use Rattle.cs_match.specs.CachedStates.{StateList}
use Rattle.cs_match.specs.Deciding.{Decides}
use Rattle.cs_match.specs.Glushkov.{IsExpanded}
use Rattle.cs_match.specs.Lines.{newline}
use Rattle.cs_match.specs.NoNewline.{HasNoNewline}
use Rattle.cs_match.specs.States.{start, next_state, successor}
use Rattle.cs_match.specs.Table as table
use Rattle.cs_match.specs.Table.{class_of, next_number, number_after, IsRow, HasRows, BeginsLine, TellsLines}
use Rattle.cs_match.specs.LazyDfa.{state_at, IsSlot, StandsFor, accepting, next, IsTransition, unknown, known, AreStates, IsTable}
use Rattle.cs_match.proofs.DfaLineLemmas.{NeverAccepts, never_found, AcceptsAt, accepts_match}
use Rattle.cs_match.proofs.TransitionLemmas.{row_in, some_classes, newline_alone, accepted_in_line, stands_slot, stands_start, stands_first, transition, unknown_slot, ends_line, stays_in_line, leaves_at_end}

abbrev IsByte : ℕ → Type 0
IsByte b = b < 256

module _ (t : Tree) (classes : ByteClasses) (states : StateList) (transitions : List ℕ) (are : AreClasses t classes)
    (right : AreStates t classes.count states) (correct : IsTable t classes states.items transitions)
    (r : Table) (transitions_is : r.transitions.now ≡ transitions) (of_is : r.of.now ≡ classes.of) (count_is : r.count ≡ classes.count) where
  some : 0 < classes.count
  some = some_classes t classes are

  class_is : (b : ℕ) → class_of r b ≡ get_or classes.of b 0
  class_is b = ap (λ xs. get_or xs b 0) of_is

  next_is : (number b : ℕ) → next_number r number b ≡ get_or transitions (number + get_or classes.of b 0) 0
  next_is number b = ap (λ xs. get_or xs (number + class_of r b) 0) transitions_is ∙ ap (λ k. get_or transitions (number + k) 0) (class_is b)

  row_of : (slot number : ℕ) → slot < length states.items → number ≡ slot * classes.count → IsRow r number
  row_of slot number lt is = record {
    slot = slot;
    is = is ∙ ap (λ k. slot * k) (sym count_is);
    within = omega (arith, is, count_is, row_in classes.count slot (length states.items) lt, correct.rows, ap length transitions_is);
  }

  pub has_rows : HasRows r
  has_rows = record {
    few = omega (arith, count_is, are.few);
    class = λ b lt. omega (arith, class_is b, are.range b lt, count_is);
    first = row_of 4 (table.table_start r) (omega (arith, right.first)) (ap (λ k. 4 * k) count_is);
    closed = λ number b row lt.
        let within : number + get_or classes.of b 0 < length transitions =
        omega (arith, row.within, are.range b lt, count_is, ap length transitions_is) in
        let at = correct.numbers (number + get_or classes.of b 0) within in
        row_of at.0 (next_number r number b) at.1 (next_is number b ∙ at.2);
    ends = λ number b row lt none.
        let number_is : number ≡ row.slot * classes.count = row.is ∙ ap (λ k. row.slot * k) count_is in
        let low : suc row.slot * classes.count ≤ length states.items * classes.count =
        omega (arith, row.within, number_is, count_is, correct.rows, ap length transitions_is) in
        let lt_slot : row.slot < length states.items = omega (arith, le_of_mul-le-mul_right low some) in
        ends_line t classes states transitions are right correct row.slot b lt_slot lt
        (sym (ap (λ k. get_or transitions (k + get_or classes.of b 0) 0) number_is) ∙ sym (next_is number b) ∙ none);
  }

  pub stands_row : (number : ℕ) (n : State) → StandsFor t classes.count states.items number n → IsRow r number
  stands_row number n stands =
      let at = stands_slot t classes.count states.items number n right.first stands in
      row_of at.0 number at.1 at.2

  pub stands_next : (number b : ℕ) (n : State) → b < 256 → StandsFor t classes.count states.items number n →
      IsTransition t classes.count states.items n b (next_number r number b)
  stands_next number b n lt stands =
      subst (λ x. IsTransition t classes.count states.items n b x) (sym (next_is number b))
      (transition t classes states transitions are right correct number n b stands lt)

  pub stands_unknown : (number b : ℕ) (n : State) → b < 256 → StandsFor t classes.count states.items number n →
      next_number r number b ≡ classes.count →
      IsSlot states.items (number / classes.count) × (state_at t states.items (number / classes.count) ≡ n)
  stands_unknown number b n lt stands e =
      unknown_slot t classes states transitions are right correct number n b stands lt (sym (next_is number b) ∙ e)

  -- the unknown state is absorbing, and so is the match state up to the end of the line
  at_unknown : (b : ℕ) → b < 256 → next_number r (table.unknown r) b ≡ table.unknown r
  at_unknown b lt =
      next_is (table.unknown r) b ∙ ap (λ n. get_or transitions (n + get_or classes.of b 0) 0) count_is
      ∙ correct.special.at_unknown (get_or classes.of b 0) (are.range b lt) ∙ sym count_is

  in_match : (number b : ℕ) → number ≡ 2 * classes.count → b < 256 → b ≢ newline → next_number r number b ≡ 2 * classes.count
  in_match number b is lt other =
      next_is number b ∙ ap (λ n. get_or transitions (n + get_or classes.of b 0) 0) is
      ∙ correct.special.at_match (get_or classes.of b 0) (are.range b lt)
      ∙ stays_in_line classes (2 * classes.count) 0 (get_or classes.of b 0) (λ e. other (newline_alone t classes are b lt e))

  match_ends : (number : ℕ) → number ≡ 2 * classes.count → next_number r number newline ≡ table.found
  match_ends number is =
      next_is number newline ∙ ap (λ n. get_or transitions (n + get_or classes.of 10 0) 0) is
      ∙ correct.special.at_match (get_or classes.of 10 0) (are.range 10 (omega arith))
      ∙ leaves_at_end classes (2 * classes.count) 0 (get_or classes.of 10 0) refl

  pub after_unknown : (number : ℕ) (text : List ℕ) → AreBytes text → number ≡ table.unknown r → number_after r number text ≡ table.unknown r
  unfolding number_after
  after_unknown number [] bytes is = is
  after_unknown number (b ∷ text) bytes is =
      after_unknown (next_number r number b) text (All-tail IsByte b text bytes)
      (ap (λ k. next_number r k b) is ∙ at_unknown b (All-head IsByte b text bytes))

  pub after_match : (number : ℕ) (line : List ℕ) → AreBytes (line ++ newline ∷ []) → HasNoNewline line → number ≡ 2 * classes.count →
      number_after r number (line ++ newline ∷ []) ≡ table.found
  unfolding number_after
  after_match number [] bytes part is = match_ends number is
  after_match number (b ∷ line) bytes part is =
      after_match (next_number r number b) line (All-tail IsByte b (line ++ newline ∷ []) bytes) part.1
      (in_match number b is (All-head IsByte b (line ++ newline ∷ []) bytes) (eqb-false b newline part.0))

  -- so is the dead state
  in_dead : (number b : ℕ) → number ≡ 3 * classes.count → b < 256 → b ≢ newline → next_number r number b ≡ 3 * classes.count
  in_dead number b is lt other =
      next_is number b ∙ ap (λ n. get_or transitions (n + get_or classes.of b 0) 0) is
      ∙ correct.special.at_dead (get_or classes.of b 0) (are.range b lt)
      ∙ stays_in_line classes (3 * classes.count) (4 * classes.count) (get_or classes.of b 0) (λ e. other (newline_alone t classes are b lt e))

  dead_ends : (number : ℕ) → number ≡ 3 * classes.count → next_number r number newline ≡ 4 * classes.count
  dead_ends number is =
      next_is number newline ∙ ap (λ n. get_or transitions (n + get_or classes.of 10 0) 0) is
      ∙ correct.special.at_dead (get_or classes.of 10 0) (are.range 10 (omega arith))
      ∙ leaves_at_end classes (3 * classes.count) (4 * classes.count) (get_or classes.of 10 0) refl

  pub after_dead : (number : ℕ) (line : List ℕ) → AreBytes (line ++ newline ∷ []) → HasNoNewline line → number ≡ 3 * classes.count →
      number_after r number (line ++ newline ∷ []) ≡ 4 * classes.count
  unfolding number_after
  after_dead number [] bytes part is = dead_ends number is
  after_dead number (b ∷ line) bytes part is =
      after_dead (next_number r number b) line (All-tail IsByte b (line ++ newline ∷ []) bytes) part.1
      (in_dead number b is (All-head IsByte b (line ++ newline ∷ []) bytes) (eqb-false b newline part.0))

  -- the tree accepts somewhere in the line
  abbrev AcceptsIn : State → List ℕ → Type 0
  AcceptsIn n line = (i : ℕ) × (i ≤ length line) × AcceptsAt t n line i

  -- the number after a line from a state
  abbrev Ends : State → List ℕ → ℕ → Type 0
  Ends n line x = (x ≡ table.unknown r) ⊎ (((x ≡ table.found) × AcceptsIn n line) ⊎ ((x ≡ table.table_start r) × NeverAccepts t n line))

  last_byte : (n : State) (x : ℕ) → IsTransition t classes.count states.items n 10 x → Ends n [] x
  last_byte n x (unknown is) = inl (is ∙ sym count_is)
  last_byte n x (known (accepting is h)) = inr (inl (is, (0, omega arith, h)))
  last_byte n x (known (next h stands other line)) = inr (inr (line refl ∙ ap (λ k. 4 * k) (sym count_is), h))

  more_bytes : (n : State) (b x : ℕ) (line : List ℕ) → nat_eq b newline ≡ false → HasNoNewline line → AreBytes (line ++ newline ∷ []) →
      IsTransition t classes.count states.items n b x →
      (StandsFor t classes.count states.items x (next_state t n b) → Ends (next_state t n b) line (number_after r x (line ++ newline ∷ []))) →
      Ends n (b ∷ line) (number_after r x (line ++ newline ∷ []))
  more_bytes n b x line part others bytes (unknown is) rest = inl (after_unknown x (line ++ newline ∷ []) bytes (is ∙ sym count_is))
  more_bytes n b x line part others bytes (known (accepting is h)) rest =
      inr (inl (after_match x line bytes others (is ∙ accepted_in_line classes.count b (eqb-false b newline part)), (0, omega arith, h)))
  more_bytes n b x line part others bytes (known (next h stands other back)) rest =
      let moves : successor t n b ≡ next_state t n b = rw part refl in
      elim (rest (subst (λ (m : State). StandsFor t classes.count states.items x m) moves stands)) [
        | inl u ↦ inl u
        | inr v ↦ inr (elim v [
          | inl m ↦ inl (m.0, (suc m.1.0, omega (arith, m.1.1), m.1.2))
          | inr p ↦ inr (p.0, (h, p.1))
        ])
      ]

  line_ends : (n : State) (number : ℕ) (line : List ℕ) → AreBytes (line ++ newline ∷ []) → HasNoNewline line →
      StandsFor t classes.count states.items number n → Ends n line (number_after r number (line ++ newline ∷ []))
  unfolding number_after
  line_ends n number [] bytes part stands = last_byte n (next_number r number newline) (stands_next number newline n (omega arith) stands)
  line_ends n number (b ∷ line) bytes part stands =
      let more = All-tail IsByte b (line ++ newline ∷ []) bytes in
      more_bytes n b (next_number r number b) line part.0 part.1 more
      (stands_next number b n (All-head IsByte b (line ++ newline ∷ []) bytes) stands)
      (λ after. line_ends (next_state t n b) (next_number r number b) line more part.1 after)

  -- a line begins in the start state
  begins : (number : ℕ) → BeginsLine r number → StandsFor t classes.count states.items number (start t)
  begins number (inl is) =
      subst (λ k. StandsFor t classes.count states.items k (start t)) (sym is) (stands_first t classes.count states right)
  begins number (inr is) =
      subst (λ k. StandsFor t classes.count states.items k (start t)) (sym (is ∙ ap (λ k. 4 * k) count_is))
      (stands_start t classes.count states right)

  -- the table tells which lines match
  pub tells_lines : IsExpanded t → (has_match : List ℕ → Bool) → Decides has_match t → TellsLines has_match r
  tells_lines expanded has_match decides = record {
    absorbs = at_unknown;
    tells = λ number line at bytes part.
        let terminated = All-append IsByte line (newline ∷ []) bytes (All-cons IsByte newline [] (omega arith) (All-nil IsByte)) in
        elim (line_ends (start t) number line terminated part (begins number at)) [
          | inl u ↦ inl u
          | inr v ↦ inr (elim v [
            | inl m ↦
                let match : has_match line ≡ true = (decides line).1 (accepts_match t line expanded part m.1.0 m.1.1 m.1.2) in
                m.0 ∙ sym (rw match refl)
            | inr p ↦
                let none = false_from_ne_true (has_match line) (λ e. never_found t line expanded part p.1 ((decides line).0 e)) in
                p.0 ∙ sym (rw none refl)
          ])
        ];
  }
