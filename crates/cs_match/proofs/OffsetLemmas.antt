-- Sets that begin at any bit of a word.
use Rattle.std.proofs.Common.{◌≡◌, ℕ, zero, suc, ◌+◌, ◌-◌, ◌*◌, ◌/◌, ◌%◌, ◌^◌, ◌<◌, ◌≤◌, Bool, true, false, ◌&&◌, ◌||◌, eqb, leb, List, [], ◌∷◌, length, get_or, drop, bit_and, bit_or, refl, sym, ◌∙◌, ap, ap₂, inl, inr, arith, w64}
use Rattle.std.proofs.Math.Bool.{or-false, or-true, and-false}
use Rattle.std.proofs.lemmas.List.{get_or_past, get_or-drop}
use Rattle.std.proofs.lemmas.List.Elements.{All-from_get_or}
use Rattle.std.proofs.lemmas.Bool.{cases_lt, and_parts, true≢false, le-leb, lt-leb, leb-true, eq-eqb}
use Rattle.std.proofs.lemmas.Nat.{pow_pos, shr-shr, and_le_l}
use Rattle.std.proofs.lemmas.Nat.Bits.{bit_at_above, bit_at_cat_low, bit_at_cat_high, bit_at-zero, bit_at-suc, bit_at-trailing_zeros}
use Rattle.std.specs.Prelude.{if◌then◌else◌}
use Rattle.std.specs.Int.{bit_at, trailing_zeros}
use Rattle.cs_syntax.specs.Bits.{has_bit}
use Rattle.cs_match.specs.PositionSet.{positions_of, IsPositionSet, has_from, has_bit_from, intersect}
use Rattle.cs_match.proofs.BitwiseLemmas.{bit-and, bit-or, has_bit-at}
use Rattle.cs_match.proofs.PositionSetLemmas.{length-positions_of, get_or-positions_of}
use Rattle.cs_match.proofs.MoveLemmas.{past_words}

-- the bits of a shifted word
mod-bit : (x i : ℕ) → i < 64 → bit_at (x % 18446744073709551616) i ≡ bit_at x i
mod-bit x i h =
    let whole : x ≡ x / 18446744073709551616 * 18446744073709551616 + x % 18446744073709551616 = omega arith in
    sym (ap (λ y. bit_at y i) whole ∙ bit_at_cat_low (x / 18446744073709551616) 64 (x % 18446744073709551616) i h)

plus-zero : (x : ℕ) → x ≡ x + 0
plus-zero x = omega arith

pub shl-above : (word by i : ℕ) → i < 64 → by ≤ i → bit_at (word * 2 ^ by % 18446744073709551616) i ≡ bit_at word (i - by)
shl-above word by i h le = mod-bit (word * 2 ^ by) i h ∙ ap (λ y. bit_at y i) (plus-zero (word * 2 ^ by))
    ∙ bit_at_cat_high word by 0 i (pow_pos by) le

pub shl-below : (word by i : ℕ) → i < 64 → i < by → bit_at (word * 2 ^ by % 18446744073709551616) i ≡ 0
shl-below word by i h lt = mod-bit (word * 2 ^ by) i h ∙ ap (λ y. bit_at y i) (plus-zero (word * 2 ^ by))
    ∙ bit_at_cat_low word by 0 i lt ∙ bit_at-zero i

shr-bit : (word by i : ℕ) → bit_at (word / 2 / 2 ^ by) i ≡ bit_at word (suc (by + i))
shr-bit word by i = ap (λ x. x % 2) (shr-shr (word / 2) by i) ∙ sym (bit_at-suc word (by + i))

-- the words of a set that begins at the bit `by`
pub first-bit : (words : List ℕ) (by i : ℕ) → i < 64 → eqb (bit_at (get_or words 0 0 * 2 ^ by % 18446744073709551616) i)
    1 ≡ has_bit_from words by i
first-bit words by i h = elim (cases_lt i by) [
  | inl lt ↦ ap (λ x. eqb x 1) (shl-below (get_or words 0 0) by i h lt) ∙ sym (rw (lt-leb by i lt) refl)
  | inr le ↦
      let index : 0 * 64 + (i - by) ≡ i - by = omega arith in
      ap (λ x. eqb x 1) (shl-above (get_or words 0 0) by i h le) ∙ sym (has_bit-at words 0 (i - by) (omega (arith, h)))
      ∙ ap (has_bit words) index
      ∙ sym (rw (le-leb by i le) refl)
]

pub whole-bit : (words : List ℕ) (index by i : ℕ) → by ≡ 0 → i < 64 → eqb (bit_at (get_or words index 0) i) 1
    ≡ has_bit_from words by (index * 64 + i)
whole-bit words index by i zero-by h =
    let same : index * 64 + i ≡ index * 64 + i - by = omega (arith, zero-by) in
    sym (has_bit-at words index i h) ∙ ap (has_bit words) same ∙ sym (rw (le-leb by (index * 64 + i) (omega (arith, zero-by))) refl)

pub later-bit : (words : List ℕ) (by p i : ℕ) → by < 64 → i < 64 → get_or words p 0 < 18446744073709551616 →
    eqb (bit_at (bit_or (get_or words (p + 1) 0 * 2 ^ by % 18446744073709551616) (get_or words p 0 / 2 / 2 ^ (63 - by)))
    i) 1 ≡ has_bit_from words by ((p + 1) * 64 + i)
later-bit words by p i low h fits =
    bit-or (get_or words (p + 1) 0 * 2 ^ by % 18446744073709551616) (get_or words p 0 / 2 / 2 ^ (63 - by)) i
    ∙ ap (λ x. eqb (bit_at (get_or words (p + 1) 0 * 2 ^ by % 18446744073709551616) i) 1 || eqb x 1)
    (shr-bit (get_or words p 0) (63 - by) i)
    ∙ (elim (cases_lt i by) [
      | inl lt ↦
          let index : p * 64 + suc (63 - by + i) ≡ (p + 1) * 64 + i - by = omega (arith, lt, low) in
          ap (λ x. eqb x 1 || eqb (bit_at (get_or words p 0) (suc (63 - by + i))) 1) (shl-below (get_or words (p + 1) 0) by i h lt)
          ∙ sym (has_bit-at words p (suc (63 - by + i)) (omega (arith, lt, low))) ∙ ap (has_bit words) index ∙ here
      | inr le ↦
          let index : (p + 1) * 64 + (i - by) ≡ (p + 1) * 64 + i - by = omega (arith, le) in
          ap (λ x. eqb (bit_at (get_or words (p + 1) 0 * 2 ^ by % 18446744073709551616) i) 1 || eqb x 1)
          (bit_at_above (get_or words p 0) 64 (suc (63 - by + i)) fits (omega (arith, le, low)))
          ∙ or-false _ ∙ ap (λ x. eqb x 1) (shl-above (get_or words (p + 1) 0) by i h le)
          ∙ sym (has_bit-at words (p + 1) (i - by) (omega (arith, h))) ∙ ap (has_bit words) index ∙ here
    ])
  where
    here : has_bit words ((p + 1) * 64 + i - by) ≡ has_bit_from words by ((p + 1) * 64 + i)
    here = sym (rw (le-leb by ((p + 1) * 64 + i) (omega (arith, low))) refl)

-- a bit in the words of such a set, and in the set
pub from-word : (words : List ℕ) (first by from j k : ℕ) → first * 64 + by ≡ from → first * 64 + j ≡ k →
    has_bit_from words by j ≡ has_bit_from words from k
from-word words first by from j k e f = elim (cases_lt j by) [
  | inl lt ↦ rw (lt-leb by j lt, lt-leb from k (omega (arith, lt, e, f))) refl
  | inr le ↦
      let same : j - by ≡ k - from = omega (arith, le, e, f) in
      rw (le-leb by j le, le-leb from k (omega (arith, le, e, f))) (ap (has_bit words) same)
]

-- positions of a set that begins at `from`
module _ (words : List ℕ) (count : ℕ) (are : IsPositionSet words count) where
  pub from-positions : (from k : ℕ) → has_from (positions_of words count) from k ≡ has_bit_from words from k
  from-positions from k = ap (λ x. leb from k && x) (elim (cases_lt (k - from) count) [
    | inl within ↦ get_or-positions_of words count (k - from) within
    | inr past ↦ get_or_past (positions_of words count) (k - from) false
        (omega (arith, length-positions_of words count, past)) ∙ sym (are.no_other (k - from) past)
  ])

  pub none-past : (from k : ℕ) → from + count ≤ k → has_bit_from words from k ≡ false
  none-past from k past = ap (λ x. leb from k && x) (are.no_other (k - from) (omega (arith, past))) ∙ and-false _

-- positions of a set that begins at `from` are put
module _ (new old which : List ℕ) (count n from end : ℕ) (on : Bool) (old-are : IsPositionSet old count)
    (which-are : IsPositionSet which n) (size : length new ≡ length old)
    (fits : (k : ℕ) → get_or new k 0 < 18446744073709551616) (room : from + n ≤ count)
    (ends : (k : ℕ) → end ≤ k → k < length old → from / 64 + length which + 1 ≤ k)
    (done : (k i : ℕ) → from / 64 ≤ k → k < end → i < 64 → eqb (bit_at (get_or new k 0) i) 1
    ≡ (if has_bit_from which (from % 64) ((k - from / 64) * 64 + i) then on else eqb (bit_at (get_or old k 0) i) 1))
    (before : (k : ℕ) → k < from / 64 → get_or new k 0 ≡ get_or old k 0)
    (pending : (k : ℕ) → end ≤ k → get_or new k 0 ≡ get_or old k 0) where
  kept : (k : ℕ) → get_or new (k / 64) 0 ≡ get_or old (k / 64) 0 → has_bit_from which from k ≡ false → has_bit new k
      ≡ (if has_bit_from which from k then on else has_bit old k)
  kept k same none = ap (λ x. eqb (bit_at x (k % 64)) 1) same ∙ sym (rw none refl)

  put-at : (k : ℕ) → k / 64 < length old → has_bit new k ≡ (if has_bit_from which from k then on else has_bit old k)
  put-at k h = elim (cases_lt (k / 64) (from / 64)) [
    | inl low ↦ kept k (before (k / 64) low) (rw (lt-leb from k (omega (arith, low))) refl)
    | inr high ↦ elim (cases_lt (k / 64) end) [
      | inl within ↦
          done (k / 64) (k % 64) high within (omega arith)
          ∙ ap (λ x. if x then on else has_bit old k)
          (from-word which (from / 64) (from % 64) from ((k / 64 - from / 64) * 64 + k % 64) k (omega arith)
          (omega (arith, high)))
      | inr past ↦
          let far : from / 64 + length which + 1 ≤ k / 64 = ends (k / 64) past h in
          kept k (pending (k / 64) past) (none-past which n which-are from k (omega (arith, far, which-are.enough)))
    ]
  ]

  pub IsPositionSet-put : IsPositionSet new count
  IsPositionSet-put = record {
    enough = size ∙ old-are.enough;
    fit = All-from_get_or (λ word. word < 2 ^ 64) new 0 (λ k h. fits k);
    no_other = λ k past. elim (cases_lt (k / 64) (length old)) [
      | inl within ↦ put-at k within ∙ rw (none-past which n which-are from k (omega (arith, room, past))) (old-are.no_other k past)
      | inr beyond ↦ past_words new k (omega (arith, size, beyond))
    ];
  }

  pub get_or-put : (k : ℕ) → k < count → get_or (positions_of new count) k false
      ≡ (if has_from (positions_of which n) from k then on else get_or (positions_of old count) k false)
  get_or-put k h =
      get_or-positions_of new count k h ∙ put-at k (omega (arith, h, old-are.enough))
      ∙ ap (λ x. if x then on else has_bit old k) (sym (from-positions which n which-are from k))
      ∙ ap (λ x. if has_from (positions_of which n) from k then on else x) (sym (get_or-positions_of old count k h))

-- what sets have in common
intersect_at : (positions others : List Bool) (k : ℕ) → get_or positions k false ≡ true → get_or others k false ≡ true →
    intersect positions others ≡ true
intersect_at [] others k a b = (cc)
intersect_at (is_in ∷ positions) [] k a b = (cc)
intersect_at (is_in ∷ positions) (other ∷ others) zero a b = rw (a, b) refl
intersect_at (is_in ∷ positions) (other ∷ others) (suc k) a b =
    ap (λ rest. (is_in && other) || rest) (intersect_at positions others k a b) ∙ or-true (is_in && other)

intersect_nowhere : (positions others : List Bool) →
    ((k : ℕ) → get_or positions k false && get_or others k false ≡ false) → intersect positions others ≡ false
intersect_nowhere [] others h = refl
intersect_nowhere (is_in ∷ positions) [] h = refl
intersect_nowhere (is_in ∷ positions) (other ∷ others) h =
    ap (λ x. x || intersect positions others) (h zero) ∙ intersect_nowhere positions others (λ k. h (suc k))

-- a bit that two words have in common
common-bit : (x y : ℕ) → x < 2 ^ 64 → (bit_and x y ≡ 0 → ⊥) → (i : ℕ) × (i < 64) × (eqb (bit_at x i) 1 ≡ true) × (eqb (bit_at y i) 1 ≡ true)
common-bit x y fits some =
    let low = and_le_l x y in
    let found = bit_at-trailing_zeros w64 (bit_and x y) (omega (arith, some)) (omega (arith, fits, low)) in
    let parts = and_parts _ _ (sym (bit-and x y (trailing_zeros w64 (bit_and x y))) ∙ eq-eqb _ 1 found.1) in
    (trailing_zeros w64 (bit_and x y), found.0, parts.0, parts.1)

pub no_common-bit : (x y i : ℕ) → bit_and x y ≡ 0 → eqb (bit_at x i) 1 && eqb (bit_at y i) 1 ≡ false
no_common-bit x y i none = sym (bit-and x y i) ∙ ap (λ z. eqb (bit_at z i) 1) none ∙ ap (λ z. eqb z 1) (bit_at-zero i)

module _ (a b : List ℕ) (count n from : ℕ) (a-are : IsPositionSet a count) (b-are : IsPositionSet b n) (room : from + n ≤ count) where
  at-offset : (k : ℕ) → k < n → get_or (drop from (positions_of a count)) k false ≡ has_bit a (from + k)
  at-offset k h = get_or-drop from (positions_of a count) k false ∙ get_or-positions_of a count (from + k) (omega (arith, h, room))

  pub meets-word : (word : ℕ) (j : ℕ) → ((i : ℕ) → i < 64 → eqb (bit_at word i) 1 ≡ has_bit_from b (from % 64) (j * 64 + i)) →
      (bit_and (get_or a (from / 64 + j) 0) word ≡ 0 → ⊥) → get_or a (from / 64 + j) 0 < 2 ^ 64 →
      intersect (drop from (positions_of a count)) (positions_of b n) ≡ true
  meets-word word j bits some fits =
      let common = common-bit (get_or a (from / 64 + j) 0) word fits some in
      let i = common.0 in
      let in-a : has_bit a ((from / 64 + j) * 64 + i) ≡ true = has_bit-at a (from / 64 + j) i common.1 ∙ common.2 in
      let in-b = and_parts _ _ (sym (bits i common.1) ∙ common.3) in
      let le : from % 64 ≤ j * 64 + i = leb-true (from % 64) (j * 64 + i) in-b.0 in
      let k : ℕ = j * 64 + i - from % 64 in
      let index : (from / 64 + j) * 64 + i ≡ from + k = omega (arith, le) in
      elim (cases_lt k n) [
        | inl within ↦
            intersect_at (drop from (positions_of a count)) (positions_of b n) k
            (at-offset k within ∙ ap (has_bit a) (sym index) ∙ in-a) (get_or-positions_of b n k within ∙ in-b.1)
        | inr past ↦ absurd (true≢false (sym in-b.1 ∙ b-are.no_other k past))
      ]

  pub meets-no_word : ((j i : ℕ) → j < length b + 1 → i < 64 → eqb (bit_at (get_or a (from / 64 + j) 0) i) 1
      && has_bit_from b (from % 64) (j * 64 + i) ≡ false) →
      intersect (drop from (positions_of a count)) (positions_of b n) ≡ false
  meets-no_word none = intersect_nowhere (drop from (positions_of a count)) (positions_of b n) (λ k. elim (cases_lt k n) [
    | inl within ↦
        let t : ℕ = from % 64 + k in
        let index : (from / 64 + t / 64) * 64 + t % 64 ≡ from + k = omega arith in
        let offset : t / 64 * 64 + t % 64 ≡ t = omega arith in
        let back : t - from % 64 ≡ k = omega arith in
        let there : has_bit_from b (from % 64) (t / 64 * 64 + t % 64) ≡ has_bit b k =
        ap (has_bit_from b (from % 64)) offset ∙ rw (le-leb (from % 64) t (omega arith)) (ap (has_bit b) back) in
        ap₂ (λ x y. x && y) (at-offset k within ∙ ap (has_bit a) (sym index)
        ∙ has_bit-at a (from / 64 + t / 64) (t % 64) (omega arith)) (get_or-positions_of b n k within ∙ sym there)
        ∙ none (t / 64) (t % 64) (omega (arith, within, b-are.enough)) (omega arith)
    | inr past ↦ ap (λ x. get_or (drop from (positions_of a count)) k false && x)
        (get_or_past (positions_of b n) k false (omega (arith, length-positions_of b n, past))) ∙ and-false _
  ])
