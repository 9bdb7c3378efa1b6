-- Lowest set bits, and bits of numbers that are put together.
use Rattle.std.proofs.Common.{◌≡◌, ◌≢◌, ℕ, ◌+◌, ◌-◌, ◌*◌, ◌%◌, ◌<◌, ◌^◌, ap, sym, ◌∙◌, inl, inr, arith, add-zero, bit_and, bit_or}
use Rattle.std.specs.Int.{Width, bit_at, bit_not, trailing_zeros}
use mir.Val.{bits}
use Rattle.std.proofs.lemmas.Bool.{cases_lt, cases_eq}
use Rattle.std.proofs.lemmas.Nat.{and_le_l, and_mask}
use Rattle.std.proofs.lemmas.Nat.Bits.{bit_at-zero, bit_at-lt, bit_at_and, bit_at_or, bit_at_ones, bit_at_cat_high, bit_at-trailing_zeros, bit_at_clear_same, bit_at_clear_other}

-- no bit below the lowest is set
pub below_lowest : (w : Width) (m k : ℕ) → m < 2 ^ bits w → k < trailing_zeros w m → bit_at m k ≡ 0
below_lowest w m k fits below = elim (cases_lt 0 m) [
  | inl some ↦ (bit_at-trailing_zeros w m some fits).2 k below
  | inr none ↦ ap (λ n. bit_at n k) (let zero : m ≡ 0 = omega arith in zero) ∙ bit_at-zero k
]

-- the number with its lowest set bit cleared
abbrev pub without_lowest : Width → ℕ → ℕ
without_lowest w m = bit_and m (bit_not w (1 * 2 ^ trailing_zeros w m % 2 ^ bits w))

module _ (w : Width) (m : ℕ) (some : 0 < m) (fits : m < 2 ^ bits w) where
  pub lowest_within : trailing_zeros w m < bits w
  lowest_within = (bit_at-trailing_zeros w m some fits).0

  pub other_bit_kept : (k : ℕ) → k < bits w → k ≢ trailing_zeros w m → bit_at (without_lowest w m) k ≡ bit_at m k
  other_bit_kept k within other = bit_at_clear_other w m (trailing_zeros w m) lowest_within k within other

  pub lowest_cleared : bit_at (without_lowest w m) (trailing_zeros w m) ≡ 0
  lowest_cleared = bit_at_clear_same w m (trailing_zeros w m) lowest_within

  pub lowest_rises : trailing_zeros w 0 ≡ bits w → trailing_zeros w m < trailing_zeros w (without_lowest w m)
  lowest_rises zero = elim (cases_lt 0 (without_lowest w m)) [
    | inl more ↦
        let next = bit_at-trailing_zeros w (without_lowest w m) more (omega (arith, and_le_l m (bit_not w (1 * 2 ^ trailing_zeros w m % 2 ^ bits w)), fits)) in
        let t = trailing_zeros w (without_lowest w m) in
        elim (cases_lt (trailing_zeros w m) t) [
          | inl rises ↦ rises
          | inr not_above ↦ elim (cases_eq t (trailing_zeros w m)) [
            | inl same ↦ absurd (omega (arith, next.1, ap (λ k. bit_at (without_lowest w m) k) same, lowest_cleared))
            | inr other ↦ absurd (omega (
              arith,
              next.1,
              other_bit_kept t next.0 other,
              (bit_at-trailing_zeros w m some fits).2 t (omega (arith, not_above, other)),
            ))
          ]
        ]
    | inr none ↦
        let is_zero : without_lowest w m ≡ 0 = omega (arith, none) in
        omega (arith, lowest_within, ap (λ n. trailing_zeros w n) is_zero, zero)
  ]

-- a bit that is set in both numbers is set in their bitwise and
pub in_both : (a b g : ℕ) → bit_at a g ≡ 1 → bit_at b g ≡ 1 → bit_at (bit_and a b) g ≡ 1
in_both a b g h k = omega (arith, bit_at_and a b g)

pub in_left : (a b g : ℕ) → bit_at (bit_and a b) g ≡ 1 → bit_at a g ≡ 1
in_left a b g h = omega (arith, bit_at_and a b g, bit_at-lt a g, bit_at-lt b g)

pub in_right : (a b g : ℕ) → bit_at (bit_and a b) g ≡ 1 → bit_at b g ≡ 1
in_right a b g h = omega (arith, bit_at_and a b g, bit_at-lt a g, bit_at-lt b g)

pub in_either : (a b g : ℕ) → bit_at a g ≡ 1 → bit_at (bit_or a b) g ≡ 1
in_either a b g h = omega (arith, bit_at_or a b g, bit_at-lt b g)

-- a number with a bit that is set is not 0
pub nonzero_from_bit : (n g : ℕ) → bit_at n g ≡ 1 → n ≢ 0
nonzero_from_bit n g set zero = absurd (omega (arith, set, ap (λ m. bit_at m g) zero, bit_at-zero g))

-- the bits of two numbers of 32 bits, one after the other
pub in_upper_half : (a b k : ℕ) → k < 32 → bit_at b k ≡ 1 → bit_at (bit_or a (b * 2 ^ 32 % 2 ^ 64)) (k + 32) ≡ 1
in_upper_half a b k below set =
    let moved : bit_at (b * 2 ^ 32 + 0) (k + 32) ≡ 1 = bit_at_cat_high b 32 0 (k + 32) (omega arith) (omega arith)
    ∙ ap (bit_at b) (let back : k + 32 - 32 ≡ k = omega arith in back) ∙ set in
    let whole : bit_at (b * 2 ^ 32) (k + 32) ≡ 1 = ap (λ n. bit_at n (k + 32)) (sym (add-zero (b * 2 ^ 32))) ∙ moved in
    let cut : bit_at (b * 2 ^ 32 % 2 ^ 64) (k + 32) ≡ 1 =
    ap (λ n. bit_at n (k + 32)) (sym (and_mask (b * 2 ^ 32) 64))
    ∙ in_both (b * 2 ^ 32) (2 ^ 64 - 1) (k + 32) whole (bit_at_ones 64 (k + 32) (omega arith)) in
    omega (arith, bit_at_or a (b * 2 ^ 32 % 2 ^ 64) (k + 32), cut, bit_at-lt a (k + 32))
