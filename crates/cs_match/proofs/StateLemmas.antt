-- The state after a prefix of a line has its positions and its look-around.
use Rattle.std.proofs.Common.{◌≡◌, ℕ, zero, suc, ◌+◌, ◌-◌, ◌<◌, ◌≤◌, Bool, true, false, ◌&&◌, List, [], ◌∷◌, ◌++◌, take, length, refl, sym, ◌∙◌, ap, arith, inl, inr}
use Rattle.std.specs.Prelude.{slice_index, nat_eq, ◌≢◌}
use mathlib.Core.Bool.{xor, beq, not}
use Rattle.std.proofs.lemmas.List.{take_more, take_all, length-replicate}
use Rattle.std.proofs.lemmas.Bool.{lt-ltb, le-ltb, le-leb, eq-eqb, ne_eqb, cases_eq, cases_Bool}
use Rattle.cs_match.proofs.GlushkovLemmas.{length-step, length-positions}
use Rattle.cs_syntax.specs.Matching.{Tree, is_word, word_before, word_after, is_at_word_boundary}
use Rattle.cs_syntax.specs.CharSteps.{unfinished_after}
use Rattle.cs_syntax.specs.declared.char_step.CharStep.{CharStep}
use Rattle.cs_syntax.specs.declared.char_step.Unfinished.{Unfinished}
use Rattle.cs_match.specs.declared.state.LookAround.{LookAround}
use Rattle.cs_match.specs.declared.state.State.{State}
use Rattle.cs_match.specs.Glushkov.{look_around, input_at, unfinished_before, position_count, accepts, step, char_step_of, cuts_of, positions, accepts_in}
use Rattle.cs_match.specs.Digits.{IsBlock}
use Rattle.cs_match.proofs.DigitLemmas.{block_after}
use Rattle.cs_match.specs.LookBehind.{look_behind}
use Rattle.cs_match.specs.States.{start, is_word_for, ahead, input, look_at_end, next_state, state_through, state, successor, accepts_before}

pub state_through-append : (t : Tree) (n : State) (xs ys : List ℕ) → state_through t n (xs ++ ys)
    ≡ state_through t (state_through t n xs) ys
state_through-append t n [] ys = refl
state_through-append t n (x ∷ xs) ys = state_through-append t (next_state t n x) xs ys

-- each state has a truth value for each position
pub length-successor : (t : Tree) (n : State) (b : ℕ) → length (successor t n b).positions ≡ position_count t
length-successor t n b =
    elim (cases_eq b 10) [
      | inl e ↦ rw (eq-eqb b 10 e) (length-replicate (position_count t) false)
      | inr other ↦ rw (ne_eqb b 10 other) (length-step t true n.positions (ahead t n b) (input t n b))
    ]

-- each state has an unfinished character of a whole block
pub block_start : (t : Tree) → IsBlock (cuts_of t) (start t).behind.unfinished
block_start t = record { multiple = λ split. (0, refl) }

pub block_successor : (t : Tree) (n : State) (b : ℕ) → IsBlock (cuts_of t) n.behind.unfinished → IsBlock (cuts_of t) (successor t n b).behind.unfinished
block_successor t n b is =
    elim (cases_eq b 10) [
      | inl e ↦ rw (eq-eqb b 10 e) (block_start t)
      | inr other ↦
          rw (ne_eqb b 10 other)
          (elim (cases_Bool (look_behind t).char) [
            | inl on ↦ rw on (block_after (cuts_of t) n.behind.unfinished b is)
            | inr off ↦ rw off (block_start t)
          ])
    ]

xor-false : (b : Bool) → xor b false ≡ b
unfolding xor
xor-false true = refl
xor-false false = refl

and-xor : (a b c : Bool) → xor (a && c) (b && c) ≡ (xor a b && c)
unfolding xor
and-xor true true true = refl
and-xor true true false = refl
and-xor true false true = refl
and-xor true false false = refl
and-xor false true true = refl
and-xor false true false = refl
and-xor false false c = refl

pub xor-is : (a b : Bool) → not (beq a b) ≡ xor a b
unfolding xor
xor-is true true = refl
xor-is true false = refl
xor-is false true = refl
xor-is false false = refl

-- a step over a byte, by its parts
module _ (t u : Tree) (n : State) (b : ℕ) (edge word : Bool) (same : u ≡ t) (is_word : word ≡ is_word_for t b)
    (is_edge : edge ≡ xor n.behind.word word) where
  abbrev here : LookAround
  here = record { first = n.behind.first; last = false; edge = edge }

  here_is : here ≡ ahead t n b
  here_is = rw (is_edge, is_word) refl

  pub accepts_here : accepts u true n.positions here ≡ accepts t true n.positions (ahead t n b)
  accepts_here = ap (λ x. accepts x true n.positions here) same ∙ ap (accepts t true n.positions) here_is

  pub moves_to : (char : CharStep) (after : Unfinished) (ps : List Bool) → char ≡ char_step_of t n.behind.unfinished b → after
      ≡ unfinished_after char →
      ps ≡ step u true n.positions here (record { byte = b; char = char }) →
      record { positions = ps; behind = record { first = false; word = word; unfinished = after } } ≡ next_state t n b
  moves_to char after ps is_char is_after moved =
      let ps_is : ps ≡ step t true n.positions (ahead t n b) (input t n b) =
      moved ∙ ap (λ x. step x true n.positions here (record { byte = b; char = char })) same
      ∙ ap (λ a. step t true n.positions a (record { byte = b; char = char })) here_is
      ∙ ap (λ c. step t true n.positions (ahead t n b) (record { byte = b; char = c })) is_char in
      rw (ps_is, is_word, is_after, is_char) refl

module _ (t : Tree) (s : List ℕ) where
  -- the state at offset i, in terms of the whole line
  abbrev at_offset : ℕ → State
  at_offset i = record {
    positions = positions (look_around t s) (input_at t s) t (λ _. true) i;
    behind = record {
      first = nat_eq i 0 && (look_behind t).first;
      word = word_before s i && (look_behind t).word;
      unfinished = unfinished_before t s i;
    };
  }

  word_at : (i : ℕ) → i < length s → word_after s i ≡ is_word (slice_index s i)
  unfolding word_after
  word_at i lt = rw (lt-ltb i (length s) lt) refl

  word_behind : (i : ℕ) → i < length s → word_before s (suc i) ≡ is_word (slice_index s i)
  unfolding word_before
  word_behind i lt =
      let here : suc i - 1 ≡ i = omega arith in
      rw (lt-ltb 0 (suc i) (omega arith), le-leb (suc i) (length s) (omega arith), here) refl

  not_last : (i : ℕ) → i < length s → nat_eq i (length s) ≡ false
  not_last i lt = ne_eqb i (length s) (λ e. omega arith)

  ahead_is : (i : ℕ) → i < length s → ahead t (at_offset i) (slice_index s i) ≡ look_around t s i
  unfolding is_at_word_boundary
  ahead_is i lt = rw (word_at i lt, not_last i lt, and-xor (word_before s i) (is_word (slice_index s i)) (look_behind t).word) refl

  next_is : (i : ℕ) → i < length s → next_state t (at_offset i) (slice_index s i) ≡ at_offset (suc i)
  next_is i lt = rw (ahead_is i lt, word_behind i lt, ne_eqb (suc i) 0 (λ e. omega arith)) refl

  pub state_is : (i : ℕ) → i ≤ length s → state t (take i s) ≡ at_offset i
  unfolding word_before
  state_is zero le = refl
  state_is (suc i) le =
      let next : suc i ≡ i + 1 = omega arith in
      let lt : i < length s = omega arith in
      ap (λ n. state t (take n s)) next
      ∙ ap (state t) (take_more s i 0 lt)
      ∙ state_through-append t (start t) (take i s) (slice_index s i ∷ [])
      ∙ ap (λ n. next_state t n (slice_index s i)) (state_is i (omega arith))
      ∙ next_is i lt

  pub length-state : (i : ℕ) → i ≤ length s → length (state t (take i s)).positions ≡ position_count t
  length-state i le = ap (λ n. length n.positions) (state_is i le) ∙ length-positions (look_around t s) (input_at t s) t (λ _. true) i

  -- one more byte of the line
  pub next_more : (i : ℕ) → i < length s → next_state t (state t (take i s)) (slice_index s i) ≡ state t (take (i + 1) s)
  next_more i lt = sym (ap (state t) (take_more s i 0 lt) ∙ state_through-append t (start t) (take i s) (slice_index s i ∷ []))

  pub accepts_ahead : (i : ℕ) → i < length s →
      accepts t true (state t (take i s)).positions (ahead t (state t (take i s)) (slice_index s i)) ≡ accepts_in s t i
  accepts_ahead i lt = rw (state_is i (omega arith), ahead_is i lt) refl

  -- the same for a byte that is not a newline
  pub beyond_more : (i : ℕ) → i < length s → slice_index s i ≢ 10 → successor t (state t (take i s)) (slice_index s i)
      ≡ state t (take (i + 1) s)
  beyond_more i lt other = rw (ne_eqb (slice_index s i) 10 other) (next_more i lt)

  pub accepts_in_line : (i : ℕ) → i < length s → slice_index s i ≢ 10 → accepts_before t (state t (take i s))
      (slice_index s i) ≡ accepts_in s t i
  accepts_in_line i lt other = rw (ne_eqb (slice_index s i) 10 other) (accepts_ahead i lt)

  end_is : look_at_end (at_offset (length s)) ≡ look_around t s (length s)
  unfolding is_at_word_boundary word_after
  end_is = rw (eq-eqb (length s) (length s) refl, le-ltb (length s) (length s) (omega arith), xor-false (word_before s (length s))) refl

  pub accepts_by_end : accepts t true (state t s).positions (look_at_end (state t s)) ≡ accepts_in s t (length s)
  accepts_by_end =
      ap (λ n. accepts t true n.positions (look_at_end n)) (ap (state t) (sym (take_all (length s) s (omega arith)))
      ∙ state_is (length s) (omega arith))
      ∙ ap (λ a. accepts t true (positions (look_around t s) (input_at t s) t (λ _. true) (length s)) a) end_is

  pub accepts_at_end : accepts_before t (state t s) 10 ≡ accepts_in s t (length s)
  accepts_at_end = accepts_by_end
