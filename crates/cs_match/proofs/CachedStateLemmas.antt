-- Cached states in flat vectors: one is read, one is added, and all but the first are forgotten.
use Rattle.std.proofs.Common.{◌≡◌, Bool, ℕ, zero, suc, ◌+◌, ◌*◌, ◌<◌, ◌≤◌, List, [], ◌∷◌, ◌++◌, take, drop, length, get_or, refl, ◌∙◌, ap, subst, arith, length-take, length-drop}
use Rattle.std.proofs.lemmas.List.{drop-drop, drop-take, take-take, take-append-le, drop-append-le, take_all, drop_all}
use Rattle.cs_match.specs.declared.state.Behind.{Behind}
use Rattle.cs_match.specs.declared.state.State.{State}
use Rattle.cs_match.specs.CachedStates.{states_of, AreSets}
use Rattle.cs_match.specs.PositionSet.{positions_of, IsPositionSet}
use Rattle.cs_match.specs.Work.{words}
use Rattle.cs_match.proofs.PositionCountLemmas.{scaled}

abbrev pub with_positions : List Bool → Behind → State
with_positions positions behind = record { positions = positions; behind = behind }

pub length-states_of : (count : ℕ) (sets : List ℕ) (behinds : List Behind) → length (states_of count sets behinds) ≡ length behinds
unfolding states_of
length-states_of count sets [] = refl
length-states_of count sets (behind ∷ behinds) = ap suc (length-states_of count (drop (words count) sets) behinds)

-- a set has as many words as its positions need
first_words : (count : ℕ) (sets : List ℕ) → IsPositionSet (take (words count) sets) count → words count ≤ length sets
first_words count sets is = omega (arith, is.enough, length-take (words count) sets)

pub length-sets : (count : ℕ) (sets : List ℕ) (behinds : List Behind) → AreSets count sets behinds →
    length sets ≡ length behinds * words count
unfolding AreSets
length-sets count sets [] are = omega (arith, ap length are)
length-sets count sets (behind ∷ behinds) are =
    omega (arith, first_words count sets are.0, length-drop (words count) sets, length-sets count (drop (words count) sets) behinds are.1)

pub set_within : (count slot w : ℕ) (sets : List ℕ) (behinds : List Behind) → AreSets count sets behinds → w ≡ words count →
    slot < length behinds → slot * w + w ≤ length sets
set_within count slot w sets behinds are is low =
    omega (
      arith,
      length-sets count sets behinds are,
      scaled (slot + 1) (length behinds) (words count) (omega (arith, low)),
      ap (λ k. slot * k) is,
      is,
    )

-- the words of the set of a state
abbrev pub set_at : ℕ → List ℕ → ℕ → List ℕ
set_at count sets slot = take (words count) (drop (slot * words count) sets)

first_set : (count : ℕ) (sets : List ℕ) → take (words count) sets ≡ set_at count sets 0
first_set count sets = let none : 0 ≡ 0 * words count = omega arith in ap (λ n. take (words count) (drop n sets)) none

next_set : (count slot : ℕ) (sets : List ℕ) → set_at count (drop (words count) sets) slot ≡ set_at count sets (suc slot)
next_set count slot sets =
    let on : words count + slot * words count ≡ suc slot * words count = omega arith in
    ap (take (words count)) (drop-drop (slot * words count) (words count) sets ∙ ap (λ n. drop n sets) on)

pub set_is : (count slot : ℕ) (sets : List ℕ) (behinds : List Behind) → AreSets count sets behinds → slot < length behinds →
    IsPositionSet (set_at count sets slot) count
unfolding AreSets
set_is count slot sets [] are lt = absurd (omega (arith, lt))
set_is count zero sets (behind ∷ behinds) are lt = subst (λ ws. IsPositionSet ws count) (first_set count sets) are.0
set_is count (suc slot) sets (behind ∷ behinds) are lt =
    subst (λ ws. IsPositionSet ws count) (next_set count slot sets) (set_is count slot (drop (words count) sets) behinds are.1 (omega (arith, lt)))

pub state_is : (count slot : ℕ) (sets : List ℕ) (behinds : List Behind) (other : State) (rest : Behind) → slot < length behinds →
    get_or (states_of count sets behinds) slot other ≡ with_positions (positions_of (set_at count sets slot) count) (get_or behinds slot rest)
unfolding states_of
state_is count slot sets [] other rest lt = absurd (omega (arith, lt))
state_is count zero sets (behind ∷ behinds) other rest lt =
    ap (λ ws. with_positions (positions_of ws count) behind) (first_set count sets)
state_is count (suc slot) sets (behind ∷ behinds) other rest lt =
    state_is count slot (drop (words count) sets) behinds other rest (omega (arith, lt))
    ∙ ap (λ ws. with_positions (positions_of ws count) (get_or behinds slot rest)) (next_set count slot sets)

-- one more state
module _ (count : ℕ) (ws : List ℕ) (rest : Behind) (is : IsPositionSet ws count) where
  all_words : take (words count) ws ≡ ws
  all_words = take_all (words count) ws (omega (arith, is.enough))

  no_words : drop (words count) ws ≡ []
  no_words = drop_all (words count) ws (omega (arith, is.enough))

  pub pushed_states : (sets : List ℕ) (behinds : List Behind) → AreSets count sets behinds →
      states_of count (sets ++ ws) (behinds ++ rest ∷ []) ≡ states_of count sets behinds ++ with_positions (positions_of ws count) rest ∷ []
  unfolding AreSets states_of
  pushed_states sets [] are = rw (are, all_words) refl
  pushed_states sets (behind ∷ behinds) are =
      let low = first_words count sets are.0 in
      rw (take-append-le (words count) sets ws low, drop-append-le (words count) sets ws low, pushed_states (drop (words count) sets) behinds are.1) refl

  pub pushed_sets : (sets : List ℕ) (behinds : List Behind) → AreSets count sets behinds → AreSets count (sets ++ ws) (behinds ++ rest ∷ [])
  unfolding AreSets
  pushed_sets sets [] are = rw (are, all_words, no_words) (is, refl)
  pushed_sets sets (behind ∷ behinds) are =
      let low = first_words count sets are.0 in
      rw (take-append-le (words count) sets ws low, drop-append-le (words count) sets ws low) (are.0, pushed_sets (drop (words count) sets) behinds are.1)

-- the first states
module _ (count : ℕ) where
  first_take : (len : ℕ) (sets : List ℕ) → take (words count) (take (suc len * words count) sets) ≡ take (words count) sets
  first_take len sets = take-take (words count) (suc len * words count) sets (omega arith)

  rest_take : (len : ℕ) (sets : List ℕ) → drop (words count) (take (suc len * words count) sets) ≡ take (len * words count) (drop (words count) sets)
  rest_take len sets =
      let on : suc len * words count ≡ words count + len * words count = omega arith in
      ap (λ n. drop (words count) (take n sets)) on ∙ drop-take (words count) (len * words count) sets

  pub first_states : (len : ℕ) (sets : List ℕ) (behinds : List Behind) → AreSets count sets behinds →
      states_of count (take (len * words count) sets) (take len behinds) ≡ take len (states_of count sets behinds)
  unfolding AreSets states_of
  first_states zero sets behinds are = refl
  first_states (suc len) sets [] are = refl
  first_states (suc len) sets (behind ∷ behinds) are =
      rw (first_take len sets, rest_take len sets, first_states len (drop (words count) sets) behinds are.1) refl

  pub first_sets : (len : ℕ) (sets : List ℕ) (behinds : List Behind) → AreSets count sets behinds →
      AreSets count (take (len * words count) sets) (take len behinds)
  unfolding AreSets
  first_sets zero sets behinds are = let none : 0 * words count ≡ 0 = omega arith in ap (λ n. take n sets) none
  first_sets (suc len) sets [] are = rw are (take_all (suc len * words count) [] (omega arith))
  first_sets (suc len) sets (behind ∷ behinds) are =
      rw (first_take len sets, rest_take len sets) (are.0, first_sets len (drop (words count) sets) behinds are.1)
