-- The exact strings of byte sets and of character sets.
use Rattle.std.proofs.Common.{true, ◌≡◌, ℕ, zero, suc, ◌+◌, ◌<◌, ◌≤◌, ◌⊎◌, ◌&&◌, inl, inr, Bool, false, List, [], ◌∷◌, ◌++◌, length, refl, sym, ◌∙◌, arith}
use Rattle.std.specs.Prelude.{nat_le, encode_utf8}
use Rattle.std.proofs.lemmas.Bool.{cases_lt, and_parts, and_from, or_cases, or_left, or_right, both_ways, leb-true, le-leb}
use Rattle.cs_syntax.specs.Ranges.{is_in_ranges}
use Rattle.cs_syntax.specs.Characters.{is_scalar}
use Rattle.cs_syntax.specs.Matching.{one_of, one_char, member}
use Rattle.cs_syntax.proofs.CharRangeLemmas.{ranges_push}
use Rattle.cs_trigram.specs.MayMatch.{MayMatch}
use Rattle.cs_trigram.proofs.EnumerationLemmas.{IsOfNumber}

-- the strings of the members of a byte set below n
abbrev pub IsByteBelow : List Bool → ℕ → List ℕ → Type 0
IsByteBelow set n = IsOfNumber (member set) (λ b. b ∷ []) 0 (λ w. ⊥) n

pub byte_string : (set : List Bool) (n : ℕ) (w : List ℕ) → IsByteBelow set n w → MayMatch true (one_of set) w
byte_string set n w (inl never) = absurd never
byte_string set n w (inr b) = (b.0, b.3, b.4)

pub byte_below : (set : List Bool) (n : ℕ) (w : List ℕ) → length set ≤ n → MayMatch true (one_of set) w → IsByteBelow set n w
byte_below set n w le h = inr (h.0, omega arith, inside (cases_lt h.0 n), h.1, h.2)
  where
    beyond : (set : List Bool) (b : ℕ) → length set ≤ b → member set b ≡ false
    beyond [] b le = refl
    beyond (x ∷ set) zero le = absurd (omega arith)
    beyond (x ∷ set) (suc b) le = beyond set b (omega arith)

    inside : (h.0 < n) ⊎ (n ≤ h.0) → h.0 < n
    inside (inl lt) = lt
    inside (inr ge) = absurd (both_ways (member set h.0) (beyond set h.0 (omega arith)) h.1)

-- the strings of some ranges, and of the characters of another one below n
abbrev pub IsCharBelow : List (ℕ × ℕ) → ℕ × ℕ → ℕ → List ℕ → Type 0
IsCharBelow ranges range n = IsOfNumber is_scalar encode_utf8 range.0 (MayMatch true (one_char ranges)) n

module _ (ranges : List (ℕ × ℕ)) (range : ℕ × ℕ) where
  pub char_string : (n : ℕ) (w : List ℕ) → n ≤ range.1 + 1 → IsCharBelow ranges range n w →
      MayMatch true (one_char (ranges ++ range ∷ [])) w
  char_string n w le (inl h) =
      let both = and_parts (is_scalar h.0) (is_in_ranges ranges h.0) h.1 in (
        h.0,
        and_from (is_scalar h.0) (is_in_ranges (ranges ++ range ∷ []) h.0) both.0
            (ranges_push ranges range h.0 ∙ or_left (is_in_ranges ranges h.0) _ both.1),
        h.2,
      )
  char_string n w le (inr c) =
      let here = and_from (nat_le range.0 c.0) (nat_le c.0 range.1) (le-leb range.0 c.0 c.1) (le-leb c.0 range.1 (omega (arith, c.2))) in (
        c.0,
        and_from (is_scalar c.0) (is_in_ranges (ranges ++ range ∷ []) c.0) c.3
            (ranges_push ranges range c.0 ∙ or_right (is_in_ranges ranges c.0) _ here),
        c.4,
      )

  pub char_below : (w : List ℕ) → MayMatch true (one_char (ranges ++ range ∷ [])) w → IsCharBelow ranges range (range.1 + 1) w
  char_below w h =
      let both = and_parts (is_scalar h.0) (is_in_ranges (ranges ++ range ∷ []) h.0) h.1 in
      elim (or_cases (is_in_ranges ranges h.0) (nat_le range.0 h.0 && nat_le h.0 range.1) (sym (ranges_push ranges range h.0) ∙ both.1)) [
        | inl old ↦ inl (h.0, and_from (is_scalar h.0) (is_in_ranges ranges h.0) both.0 old, h.2)
        | inr new ↦
            let ends = and_parts (nat_le range.0 h.0) (nat_le h.0 range.1) new in
            let low = leb-true range.0 h.0 ends.0 in
            let high = leb-true h.0 range.1 ends.1 in
            inr (h.0, low, omega (arith, high), both.0, h.2)
      ]
