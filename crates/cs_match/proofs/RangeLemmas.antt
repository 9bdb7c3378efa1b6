-- The positions of a range whose bit, the same in each word, is set.
use Rattle.std.proofs.Common.{◌≡◌, ℕ, zero, suc, ◌+◌, ◌-◌, ◌*◌, ◌/◌, ◌%◌, ◌^◌, ◌<◌, ◌≤◌, Bool, true, false, ◌&&◌, eqb, leb, List, length, get_or, bit_and, refl, sym, ◌∙◌, ap, ap₂, inl, inr, arith, w64}
use Rattle.std.proofs.Math.Bool.{and-false, and-true}
use Rattle.std.proofs.lemmas.List.Elements.{All-from_get_or}
use Rattle.std.proofs.lemmas.Bool.{cases_lt, cases_eq, and_parts, le-leb, lt-leb, leb-true, eq-eqb, ne_eqb}
use Rattle.std.proofs.lemmas.Nat.{shr-shr, and_le_l}
use Rattle.std.proofs.lemmas.Nat.Bits.{bit_at_cat_low, bit_at_cat_high, bit_at_ones, bit_at-zero, bit_at-trailing_zeros}
use Rattle.std.specs.Prelude.{if◌then◌else◌}
use Rattle.std.specs.Int.{bit_at, trailing_zeros}
use Rattle.cs_syntax.specs.Bits.{has_bit}
use Rattle.cs_match.specs.PositionSet.{positions_of, IsPositionSet, is_selected}
use Rattle.cs_match.proofs.BitwiseLemmas.{bit-and, has_bit-at}
use Rattle.cs_match.proofs.PositionSetLemmas.{get_or-positions_of}
use Rattle.cs_match.proofs.OffsetLemmas.{shl-above, shl-below}

-- the bits of a word from one on
pub high-bits : (word from i : ℕ) → i < 64 → eqb (bit_at (word / 2 ^ from * 2 ^ from % 18446744073709551616) i) 1
    ≡ leb from i && eqb (bit_at word i) 1
high-bits word from i h = elim (cases_lt i from) [
  | inl lt ↦ ap (λ x. eqb x 1) (shl-below (word / 2 ^ from) from i h lt) ∙ sym (rw (lt-leb from i lt) refl)
  | inr le ↦
      let index : from + (i - from) ≡ i = omega (arith, le) in
      ap (λ x. eqb x 1) (shl-above (word / 2 ^ from) from i h le)
      ∙ ap (λ x. eqb (x % 2) 1) (shr-shr word from (i - from) ∙ ap (λ (k : ℕ). word / 2 ^ k) index)
      ∙ sym (rw (le-leb from i le) refl)
]

-- nothing is before or after the range
pub none-before : (which from end k : ℕ) → k < from → is_selected which from end k ≡ false
none-before which from end k lt = rw (lt-leb from k lt) refl

pub none-after : (which from end k : ℕ) → end ≤ k → is_selected which from end k ≡ false
none-after which from end k le = rw (lt-leb (suc k) end (omega (arith, le)), and-false (leb from k)) refl

-- what holds of a position of the range
pub of-parts : (which from end k : ℕ) → is_selected which from end k ≡ true →
    (from ≤ k) × (k < end) × (eqb (bit_at which (k % 64)) 1 ≡ true)
of-parts which from end k e =
    let parts = and_parts _ _ e in
    let range = and_parts _ _ parts.0 in
    (leb-true from k range.0, leb-true (suc k) end range.1, parts.1)

-- the bits of every other position
abbrev pattern : ℕ → ℕ
pattern zero = 0
pattern (suc m) = pattern m * 2 ^ 2 + 1

pattern-bit : (m i : ℕ) → i < 2 * m → bit_at (pattern m) i ≡ 1 - i % 2
pattern-bit zero i h = absurd (omega (arith, h))
pattern-bit (suc m) zero h = bit_at_cat_low (pattern m) 2 1 0 (omega arith)
pattern-bit (suc m) (suc zero) h = bit_at_cat_low (pattern m) 2 1 1 (omega arith)
pattern-bit (suc m) (suc (suc i)) h =
    let before : suc (suc i) - 2 ≡ i = omega arith in
    bit_at_cat_high (pattern m) 2 1 (suc (suc i)) (omega arith) (omega arith) ∙ ap (bit_at (pattern m)) before
    ∙ pattern-bit m i (omega (arith, h)) ∙ omega arith

alternate : (i : ℕ) → i < 64 → bit_at 6148914691236517205 i ≡ 1 - i % 2
alternate i h = pattern-bit 32 i (omega (arith, h))

flag : (a b : ℕ) → (a ≡ 1 → b ≡ 0) → (b ≡ 0 → a ≡ 1) → eqb a 1 ≡ eqb b 0
flag a b there back = elim (cases_eq a 1) [
  | inl one ↦ eq-eqb a 1 one ∙ sym (eq-eqb b 0 (there one))
  | inr other ↦ ne_eqb a 1 other ∙ sym (ne_eqb b 0 (λ e. other (back e)))
]

pub every-bit : (at k : ℕ) → eqb (bit_at 18446744073709551615 (k % 64)) 1 ≡ eqb ((at + k) % 1) 0
every-bit at k =
    let none : (at + k) % 1 ≡ 0 = omega arith in
    eq-eqb _ 1 (bit_at_ones 64 (k % 64) (omega arith)) ∙ sym (eq-eqb _ 0 none)

pub other-bit : (at k : ℕ) → eqb (bit_at (6148914691236517205 * 2 ^ (at % 2) % 18446744073709551616) (k % 64)) 1 ≡ eqb ((at + k) % 2) 0
other-bit at k = elim (cases_lt (k % 64) (at % 2)) [
  | inl lt ↦ flag _ _ (λ e. absurd (omega (arith, e, shl-below 6148914691236517205 (at % 2) (k % 64) (omega arith) lt)))
      (λ e. absurd (omega (arith, e, lt)))
  | inr le ↦
      let bit = shl-above 6148914691236517205 (at % 2) (k % 64) (omega arith) le ∙ alternate (k % 64 - at % 2) (omega arith) in
      flag _ _ (λ e. omega (arith, e, bit, le)) (λ e. omega (arith, e, bit, le))
]

-- the positions of a range that are in the set: none is in the words before one, and `bits` are those of its range
module _ (words : List ℕ) (count which from end index word bits : ℕ) (room : end ≤ count)
    (word-is : word ≡ get_or words index 0) (fits : word < 2 ^ 64)
    (range : (i : ℕ) → i < 64 → eqb (bit_at bits i) 1 ≡ is_selected which from end (index * 64 + i))
    (before : (k : ℕ) → k < index * 64 → is_selected which from end k && has_bit words k ≡ false) where
  word-bit : (i : ℕ) → i < 64 → eqb (bit_at (bit_and word bits) i) 1 ≡ is_selected which from end (index * 64 + i)
      && has_bit words (index * 64 + i)
  word-bit i h =
      bit-and word bits i
      ∙ ap₂ (λ x y. x && y) (ap (λ x. eqb (bit_at x i) 1) word-is ∙ sym (has_bit-at words index i h)) (range i h)
      ∙ swap (has_bit words (index * 64 + i)) (is_selected which from end (index * 64 + i))
    where
      swap : (x y : Bool) → x && y ≡ y && x
      swap true y = sym (and-true y)
      swap false y = sym (and-false y)

  -- none is below this bit of the word
  up-to : (n : ℕ) → n ≤ 64 → ((i : ℕ) → i < n → eqb (bit_at (bit_and word bits) i) 1 ≡ false) → (k : ℕ) →
      k < index * 64 + n → is_selected which from end k && has_bit words k ≡ false
  up-to n low none k h = elim (cases_lt k (index * 64)) [
    | inl lt ↦ before k lt
    | inr le ↦
        let index_is : index * 64 + (k - index * 64) ≡ k = omega (arith, le) in
        ap (λ j. is_selected which from end j && has_bit words j) (sym index_is)
        ∙ sym (word-bit (k - index * 64) (omega (arith, le, h, low))) ∙ none (k - index * 64) (omega (arith, le, h))
  ]

  in-set : (k : ℕ) → is_selected which from end k && has_bit words k ≡ is_selected which from end k
      && get_or (positions_of words count) k false
  in-set k = elim (cases_lt k end) [
    | inl within ↦ ap (λ x. is_selected which from end k && x) (sym (get_or-positions_of words count k (omega (arith, within, room))))
    | inr past ↦ rw (none-after which from end k past) refl
  ]

  pub none-in-word : bit_and word bits ≡ 0 → (k : ℕ) → k < (index + 1) * 64 → is_selected which from end k && has_bit words k ≡ false
  none-in-word none k h =
      up-to 64 (omega arith) (λ i lt. ap (λ x. eqb (bit_at x i) 1) none ∙ ap (λ x. eqb x 1) (bit_at-zero i)) k (omega (arith, h))

  abbrev lowest : ℕ
  lowest = index * 64 + trailing_zeros w64 (bit_and word bits)

  module _ (some : bit_and word bits ≡ 0 → ⊥) where
    found : (trailing_zeros w64 (bit_and word bits) < 64) × (bit_at (bit_and word bits) (trailing_zeros w64 (bit_and word bits)) ≡ 1)
        × ((i : ℕ) → i < trailing_zeros w64 (bit_and word bits) → bit_at (bit_and word bits) i ≡ 0)
    found = bit_at-trailing_zeros w64 (bit_and word bits) (omega (arith, some)) (omega (arith, fits, and_le_l word bits))

    bit-found : is_selected which from end lowest && has_bit words lowest ≡ true
    bit-found = sym (word-bit _ found.0) ∙ eq-eqb _ 1 found.1

    pub found-within : lowest < end
    found-within = (of-parts which from end lowest (and_parts _ _ bit-found).0).1

    pub found-in-set : is_selected which from end lowest && get_or (positions_of words count) lowest false ≡ true
    found-in-set = sym (in-set lowest) ∙ bit-found

    pub found-first : (k : ℕ) → k < lowest → is_selected which from end k && get_or (positions_of words count) k false ≡ false
    found-first k h =
        sym (in-set k) ∙ up-to (trailing_zeros w64 (bit_and word bits)) (omega (arith, found.0))
        (λ i lt. ap (λ x. eqb x 1) (found.2 i lt)) k h

-- none is in the set
pub none-in-set : (words : List ℕ) (count which from end : ℕ) → end ≤ count →
    ((k : ℕ) → k < end → is_selected which from end k && has_bit words k ≡ false) →
    (k : ℕ) → k < end → is_selected which from end k && get_or (positions_of words count) k false ≡ false
none-in-set words count which from end room none k h =
    ap (λ x. is_selected which from end k && x) (get_or-positions_of words count k (omega (arith, h, room))) ∙ none k h

-- the positions of a range are added
module _ (new old : List ℕ) (count which from end past : ℕ) (are : IsPositionSet old count)
    (size : length new ≡ length old) (room : end ≤ count)
    (fits : (k : ℕ) → get_or new k 0 < 18446744073709551616)
    (done : (k i : ℕ) → k < past → i < 64 → eqb (bit_at (get_or new k 0) i) 1
    ≡ (if is_selected which from end (k * 64 + i) then true else eqb (bit_at (get_or old k 0) i) 1))
    (pending : (k : ℕ) → past ≤ k → get_or new k 0 ≡ get_or old k 0) (ends : end ≤ past * 64) where
  filled-at : (k : ℕ) → has_bit new k ≡ (if is_selected which from end k then true else has_bit old k)
  filled-at k = elim (cases_lt (k / 64) past) [
    | inl within ↦
        let index : k / 64 * 64 + k % 64 ≡ k = omega arith in
        done (k / 64) (k % 64) within (omega arith) ∙ ap (λ j. if is_selected which from end j then true else has_bit old k) index
    | inr beyond ↦
        ap (λ x. eqb (bit_at x (k % 64)) 1) (pending (k / 64) beyond)
        ∙ sym (rw (none-after which from end k (omega (arith, beyond, ends))) refl)
  ]

  pub IsPositionSet-filled : IsPositionSet new count
  IsPositionSet-filled = record {
    enough = size ∙ are.enough;
    fit = All-from_get_or (λ word. word < 2 ^ 64) new 0 (λ k h. fits k);
    no_other = λ k beyond. filled-at k ∙ rw (none-after which from end k (omega (arith, beyond, room))) (are.no_other k beyond);
  }

  pub get_or-filled : (k : ℕ) → k < count → get_or (positions_of new count) k false
      ≡ (if is_selected which from end k then true else get_or (positions_of old count) k false)
  get_or-filled k h =
      get_or-positions_of new count k h ∙ filled-at k ∙ ap (λ x. if is_selected which from end k then true else x)
      (sym (get_or-positions_of old count k h))
