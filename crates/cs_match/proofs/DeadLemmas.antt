-- Dead states: an anchored tree accepts nothing more from a state without positions, so that a scan may go on at the next line.
use Rattle.std.proofs.Common.{◌≡◌, ℕ, ◌+◌, Bool, true, false, not, nat_eq, List, [], ◌∷◌, ◌++◌, take, drop, length, replicate, refl, sym, ◌∙◌, ap, inl, inr}
use Rattle.std.proofs.lemmas.Bool.{and_parts, cases_Bool, not-true}
use Rattle.std.proofs.lemmas.List.{take_at, drop_at, length-replicate, replicate-append-replicate}
use Rattle.cs_syntax.specs.Matching.{Tree, Trees, empty, one_of, one_char, cat, alt, rep, line_start, line_end, word_edge, not_word_edge, none, more}
use Rattle.cs_syntax.specs.declared.char_step.CharStep.{CharStep}
use Rattle.cs_syntax.specs.declared.char_step.CharStep.TheVariants.{Nothing, Single, Begins, Inside, Completes}
use Rattle.cs_match.specs.declared.position.Input.{Input}
use Rattle.cs_match.specs.declared.state.LookAround.{LookAround}
use Rattle.cs_match.specs.declared.state.State.{State}
use Rattle.cs_match.specs.Anchored.{is_anchored, begins_anchored, are_anchored}
use Rattle.cs_match.specs.Glushkov.{position_count, position_count_of, nullable, nullable_all, nullable_some, is_final, is_final_all, is_final_some, accepts, step_chars, step, step_all, step_each}
use Rattle.cs_match.specs.Lines.{newline}
use Rattle.cs_match.specs.PositionSet.{intersect}
use Rattle.cs_match.specs.States.{ahead, input, before, next_state, accepts_before, IsDead}

-- a set that has no position in common with itself is empty
pub intersect_self : (ms : List Bool) → intersect ms ms ≡ false → ms ≡ replicate (length ms) false
intersect_self [] h = refl
intersect_self (true ∷ ms) h = (cc)
intersect_self (false ∷ ms) h = ap (λ xs. false ∷ xs) (intersect_self ms h)

-- a set of characters that is not entered has no positions after a byte
chars_out : (ranges : List (ℕ × ℕ)) (char : CharStep) → step_chars ranges false (false ∷ false ∷ []) char ≡ false ∷ false ∷ []
chars_out ranges Nothing = refl
chars_out ranges (Single b) = refl
chars_out ranges (Begins at) = refl
chars_out ranges (Inside at) = refl
chars_out ranges (Completes low) = refl

-- the empty set of positions
abbrev pub no_positions : ℕ → List Bool
no_positions count = replicate count false

-- its two parts in a list of trees
module _ (t : Tree) (ts : Trees) where
  abbrev first_count : ℕ
  first_count = position_count t

  abbrev rest_count : ℕ
  rest_count = position_count_of ts

  both : no_positions first_count ++ no_positions rest_count ≡ no_positions (first_count + rest_count)
  both = replicate-append-replicate first_count rest_count false

  first_part : take first_count (no_positions (first_count + rest_count)) ≡ no_positions first_count
  first_part = ap (take first_count) (sym both) ∙ take_at (no_positions first_count) (no_positions rest_count) first_count (length-replicate first_count false)

  rest_part : drop first_count (no_positions (first_count + rest_count)) ≡ no_positions rest_count
  rest_part = ap (drop first_count) (sym both) ∙ drop_at (no_positions first_count) (no_positions rest_count) first_count (length-replicate first_count false)

module _ (a : LookAround) where
  -- a tree without positions does not end
  mutual
    pub not_final : (t : Tree) → is_final t (no_positions (position_count t)) a ≡ false
    not_final empty = refl
    not_final (one_of set) = refl
    not_final (one_char ranges) = refl
    not_final (cat ts) = not_final_all ts
    not_final (alt ts) = not_final_some ts
    not_final (rep x n m) = not_final x
    not_final line_start = refl
    not_final line_end = refl
    not_final word_edge = refl
    not_final not_word_edge = refl

    not_final_all : (ts : Trees) → is_final_all ts (no_positions (position_count_of ts)) a ≡ false
    not_final_all none = refl
    not_final_all (more t ts) = rw (first_part t ts, rest_part t ts, not_final t, not_final_all ts) refl

    not_final_some : (ts : Trees) → is_final_some ts (no_positions (position_count_of ts)) a ≡ false
    not_final_some none = refl
    not_final_some (more t ts) = rw (first_part t ts, rest_part t ts, not_final t, not_final_some ts) refl

  -- nor has it positions after a byte, if it cannot begin here
  module _ (b : Input) where
    mutual
      pub stays_out : (t : Tree) → step t false (no_positions (position_count t)) a b ≡ no_positions (position_count t)
      stays_out empty = refl
      stays_out (one_of set) = refl
      stays_out (one_char ranges) = chars_out ranges b.char
      stays_out (cat ts) = stays_out_all ts
      stays_out (alt ts) = stays_out_each ts
      stays_out (rep x n m) = rw (not_final x) (stays_out x)
      stays_out line_start = refl
      stays_out line_end = refl
      stays_out word_edge = refl
      stays_out not_word_edge = refl

      stays_out_all : (ts : Trees) → step_all ts false (no_positions (position_count_of ts)) a b ≡ no_positions (position_count_of ts)
      stays_out_all none = refl
      stays_out_all (more t ts) = rw (first_part t ts, rest_part t ts, not_final t, stays_out t, stays_out_all ts) (both t ts)

      stays_out_each : (ts : Trees) → step_each ts false (no_positions (position_count_of ts)) a b ≡ no_positions (position_count_of ts)
      stays_out_each none = refl
      stays_out_each (more t ts) = rw (first_part t ts, rest_part t ts, stays_out t, stays_out_each ts) (both t ts)

  -- an anchored tree begins at the start of the line only
  module _ (later : a.first ≡ false) where
    mutual
      not_nullable : (t : Tree) → is_anchored t ≡ true → nullable t a ≡ false
      not_nullable empty h = (cc)
      not_nullable (one_of set) h = (cc)
      not_nullable (one_char ranges) h = (cc)
      not_nullable (cat ts) h = not_nullable_all ts h
      not_nullable (alt ts) h = not_nullable_some ts h
      not_nullable (rep x n m) h =
          let p = and_parts (not (nat_eq n 0)) (is_anchored x) h in
          rw (not-true (nat_eq n 0) p.0, not_nullable x p.1) refl
      not_nullable line_start h = later
      not_nullable line_end h = (cc)
      not_nullable word_edge h = (cc)
      not_nullable not_word_edge h = (cc)

      not_nullable_all : (ts : Trees) → begins_anchored ts ≡ true → nullable_all ts a ≡ false
      not_nullable_all none h = (cc)
      not_nullable_all (more t ts) h = rw (not_nullable t h) refl

      not_nullable_some : (ts : Trees) → are_anchored ts ≡ true → nullable_some ts a ≡ false
      not_nullable_some none h = refl
      not_nullable_some (more t ts) h =
          let p = and_parts (is_anchored t) (are_anchored ts) h in
          rw (not_nullable t p.0, not_nullable_some ts p.1) refl

    module _ (b : Input) where
      mutual
        stays_empty : (t : Tree) → is_anchored t ≡ true → step t true (no_positions (position_count t)) a b ≡ no_positions (position_count t)
        stays_empty empty h = refl
        stays_empty (one_of set) h = (cc)
        stays_empty (one_char ranges) h = (cc)
        stays_empty (cat ts) h = stays_empty_all ts h
        stays_empty (alt ts) h = stays_empty_each ts h
        stays_empty (rep x n m) h = stays_empty x (and_parts (not (nat_eq n 0)) (is_anchored x) h).1
        stays_empty line_start h = refl
        stays_empty line_end h = refl
        stays_empty word_edge h = refl
        stays_empty not_word_edge h = refl

        stays_empty_all : (ts : Trees) → begins_anchored ts ≡ true → step_all ts true (no_positions (position_count_of ts)) a b ≡ no_positions (position_count_of ts)
        stays_empty_all none h = refl
        stays_empty_all (more t ts) h =
            rw (first_part t ts, rest_part t ts, not_final t, not_nullable t h, stays_empty t h, stays_out_all b ts) (both t ts)

        stays_empty_each : (ts : Trees) → are_anchored ts ≡ true → step_each ts true (no_positions (position_count_of ts)) a b ≡ no_positions (position_count_of ts)
        stays_empty_each none h = refl
        stays_empty_each (more t ts) h =
            let p = and_parts (is_anchored t) (are_anchored ts) h in
            rw (first_part t ts, rest_part t ts, stays_empty t p.0, stays_empty_each ts p.1) (both t ts)

module _ (t : Tree) (anchored : is_anchored t ≡ true) where
  not_accepted : (n : State) → n.positions ≡ no_positions (position_count t) → n.behind.first ≡ false → (b : ℕ) → accepts_before t n b ≡ false
  not_accepted n blank later b =
      let here = before t n b in
      let not_first : here.first ≡ false = elim (cases_Bool (nat_eq b newline)) [
        | inl e ↦ rw e later
        | inr e ↦ rw e later
      ] in
      ap (λ ms. accepts t true ms here) blank ∙ rw (not_final here t, not_nullable here not_first t anchored) refl

  -- a state without positions is dead
  pub is_dead : (n : State) → n.positions ≡ no_positions (position_count t) → n.behind.first ≡ false → IsDead t n
  is_dead n blank later [] b = not_accepted n blank later b
  is_dead n blank later (c ∷ bytes) b =
      let moved = ap (λ ms. step t true ms (ahead t n c) (input t n c)) blank ∙ stays_empty (ahead t n c) later (input t n c) t anchored in
      is_dead (next_state t n c) moved refl bytes b
