-- Bits of words that are combined or shifted.
use Rattle.std.proofs.Common.{◌≡◌, ℕ, zero, suc, ◌+◌, ◌*◌, ◌/◌, ◌%◌, ◌^◌, ◌<◌, Bool, true, false, ◌&&◌, ◌||◌, eqb, List, length, get_or, bit_and, bit_or, bit_xor, min, max, refl, inl, inr, sym, ◌∙◌, ap, arith}
use Rattle.std.proofs.Math.Bool.{or-false, or-true}
use Rattle.std.proofs.lemmas.Nat.Bits.{bit_at-lt, bit_at-suc, bit_at_lowest, bit_at_above, bit_at_cat_low, bit_at_and, bit_at_or, bit_at_xor, bit_at-pow_same, bit_at-pow_other}
use Rattle.std.proofs.lemmas.Bool.{cases_lt, eq-eqb, false≢true}
use Rattle.std.proofs.lemmas.Nat.{one_shl}
use Rattle.std.proofs.lemmas.List.{get_or_past}
use Rattle.std.specs.Prelude.{All, if◌then◌else◌}
use Rattle.std.specs.Int.{bit_at}
use Rattle.cs_syntax.specs.Bits.{has_bit}
use Rattle.cs_syntax.proofs.BitLemmas.{IsWithBit}

-- the carry into a word
abbrev pub carry : List ℕ → ℕ → ℕ
carry words zero = 0
carry words (suc at) = get_or words at 0 / 9223372036854775808

-- the position before
abbrev pub previous : List ℕ → ℕ → Bool
previous words zero = false
previous words (suc at) = has_bit words at

-- a bit as a test
both : (a b : ℕ) → a < 2 → b < 2 → eqb (min a b) 1 ≡ eqb a 1 && eqb b 1
both zero zero p q = refl
both zero (suc zero) p q = refl
both zero (suc (suc b)) p q = absurd (omega (arith, q))
both (suc zero) zero p q = refl
both (suc zero) (suc zero) p q = refl
both (suc zero) (suc (suc b)) p q = absurd (omega (arith, q))
both (suc (suc a)) b p q = absurd (omega (arith, p))

either : (a b : ℕ) → a < 2 → b < 2 → eqb (max a b) 1 ≡ eqb a 1 || eqb b 1
either zero zero p q = refl
either zero (suc zero) p q = refl
either zero (suc (suc b)) p q = absurd (omega (arith, q))
either (suc zero) zero p q = refl
either (suc zero) (suc zero) p q = refl
either (suc zero) (suc (suc b)) p q = absurd (omega (arith, q))
either (suc (suc a)) b p q = absurd (omega (arith, p))

pub bit-and : (a b i : ℕ) → eqb (bit_at (bit_and a b) i) 1 ≡ eqb (bit_at a i) 1 && eqb (bit_at b i) 1
bit-and a b i = ap (λ x. eqb x 1) (bit_at_and a b i) ∙ both (bit_at a i) (bit_at b i) (bit_at-lt a i) (bit_at-lt b i)

pub bit-or : (a b i : ℕ) → eqb (bit_at (bit_or a b) i) 1 ≡ eqb (bit_at a i) 1 || eqb (bit_at b i) 1
bit-or a b i = ap (λ x. eqb x 1) (bit_at_or a b i) ∙ either (bit_at a i) (bit_at b i) (bit_at-lt a i) (bit_at-lt b i)

-- bits of a word that are set or cleared
set_bits : (w b on : Bool) → on ≡ true → w || b ≡ if b then on else w
set_bits w true on e = or-true w ∙ sym e
set_bits w false on e = or-false w

pub bits-set : (word bits i : ℕ) (on : Bool) → on ≡ true → eqb (bit_at (bit_or word bits) i) 1
    ≡ if eqb (bit_at bits i) 1 then on else eqb (bit_at word i) 1
bits-set word bits i on e = bit-or word bits i ∙ set_bits (eqb (bit_at word i) 1) (eqb (bit_at bits i) 1) on e

clear : (w b : ℕ) (on : Bool) → w < 2 → b < 2 → on ≡ false → eqb ((max w b + b) % 2) 1 ≡ if eqb b 1 then on else eqb w 1
clear zero zero on p q e = refl
clear zero (suc zero) on p q e = sym e
clear (suc zero) zero on p q e = refl
clear (suc zero) (suc zero) on p q e = sym e
clear w (suc (suc b)) on p q e = absurd (omega (arith, q))
clear (suc (suc w)) b on p q e = absurd (omega (arith, p))

pub bits-cleared : (word bits i : ℕ) (on : Bool) → on ≡ false → eqb (bit_at (bit_xor (bit_or word bits) bits) i) 1
    ≡ if eqb (bit_at bits i) 1 then on else eqb (bit_at word i) 1
bits-cleared word bits i on e =
    ap (λ x. eqb x 1) (bit_at_xor (bit_or word bits) bits i ∙ ap (λ x. (x + bit_at bits i) % 2) (bit_at_or word bits i))
    ∙ clear (bit_at word i) (bit_at bits i) on (bit_at-lt word i) (bit_at-lt bits i) e

-- the lowest bit of a word shifted left is clear, and the others move up by one
same_bit : (a b : ℕ) → a < 2 → b < 2 → eqb a 1 ≡ eqb b 1 → a ≡ b
same_bit zero zero h k e = refl
same_bit zero (suc zero) h k e = absurd (false≢true e)
same_bit (suc zero) zero h k e = absurd (false≢true (sym e))
same_bit (suc zero) (suc zero) h k e = refl
same_bit (suc (suc a)) b h k e = absurd (omega (arith, h))
same_bit a (suc (suc b)) h k e = absurd (omega (arith, k))

-- a mask with one bit
pub with_one_bit : (old new index : ℕ) (on : Bool) → index < 64 →
    ((i : ℕ) → i < 64 → eqb (bit_at new i) 1
    ≡ (if eqb (bit_at (1 * 2 ^ index % 2 ^ 64) i) 1 then on else eqb (bit_at old i) 1)) → IsWithBit old new index on
with_one_bit old new index on low each = record {
  there = each index low ∙ ap (λ x. if x then on else eqb (bit_at old index) 1) (mask index ∙ eq-eqb _ 1 (bit_at-pow_same index));
  elsewhere = λ i h other. same_bit (bit_at new i) (bit_at old i) (bit_at-lt new i) (bit_at-lt old i)
      (each i h ∙ ap (λ x. if x then on else eqb (bit_at old i) 1) (mask i ∙ ap (λ b. eqb b 1) (bit_at-pow_other index i other)));
}
  where
    mask : (i : ℕ) → eqb (bit_at (1 * 2 ^ index % 2 ^ 64) i) 1 ≡ eqb (bit_at (2 ^ index) i) 1
    mask i = ap (λ n. eqb (bit_at n i) 1) (one_shl index 64 low)

pub shl-lowest : (word : ℕ) → eqb (bit_at (word * 2 % 18446744073709551616) 0) 1 ≡ false
shl-lowest word = ap (λ x. eqb x 1) (bit_at_lowest (word * 2 % 18446744073709551616) ∙ even)
  where
    even : word * 2 % 18446744073709551616 % 2 ≡ 0
    even = omega arith

pub shl-others : (word i : ℕ) → i < 63 → bit_at (word * 2 % 18446744073709551616) (suc i) ≡ bit_at word i
shl-others word i h =
    bit_at-suc (word * 2 % 18446744073709551616) i
    ∙ ap (λ x. bit_at x i) half
    ∙ sym (ap (λ x. bit_at x i) whole ∙ bit_at_cat_low (word / 9223372036854775808) 63 (word % 9223372036854775808) i h)
  where
    half : word * 2 % 18446744073709551616 / 2 ≡ word % 9223372036854775808
    half = omega arith

    whole : word ≡ word / 9223372036854775808 * 9223372036854775808 + word % 9223372036854775808
    whole = omega arith

-- a bit of the set, by its word
pub has_bit-at : (words : List ℕ) (q r : ℕ) → r < 64 → has_bit words (q * 64 + r) ≡ eqb (bit_at (get_or words q 0) r) 1
has_bit-at words q r h =
    let quotient : (q * 64 + r) / 64 ≡ q = omega arith in
    let rest : (q * 64 + r) % 64 ≡ r = omega arith in
    ap (λ (n : ℕ). eqb (bit_at (get_or words n 0) ((q * 64 + r) % 64)) 1) quotient
    ∙ ap (λ (n : ℕ). eqb (bit_at (get_or words q 0) n) 1) rest

-- the words of a set, each with the highest bit of the one before it
abbrev pub shifted : List ℕ → ℕ → ℕ
shifted words q = bit_or (get_or words q 0 * 2 % 18446744073709551616) (carry words q)

module _ (words : List ℕ) (fit : All (λ word. word < 2 ^ 64) words) where
  fits : (q : ℕ) → get_or words q 0 < 18446744073709551616
  fits q = elim (cases_lt q (length words)) [
    | inl within ↦ fit q 0 within
    | inr past ↦ omega (arith, get_or_past words q 0 past)
  ]

  pub carry-lt : (q : ℕ) → carry words q < 2
  carry-lt zero = omega arith
  carry-lt (suc q) = omega (arith, fits q)

  pub carry-previous : (q : ℕ) → eqb (carry words q) 1 ≡ previous words (q * 64 + 0)
  carry-previous zero = refl
  carry-previous (suc q) =
      let index : suc (q * 64 + 63) ≡ suc q * 64 + 0 = omega arith in
      let highest : get_or words q 0 / 9223372036854775808 ≡ get_or words q 0 / 9223372036854775808 % 2 = omega (arith, fits q) in
      ap (λ x. eqb x 1) highest ∙ sym (has_bit-at words q 63 (omega arith)) ∙ ap (previous words) index

  pub shifted-bit : (q r : ℕ) → r < 64 → eqb (bit_at (shifted words q) r) 1 ≡ previous words (q * 64 + r)
  shifted-bit q zero low =
      let small : carry words q % 2 ≡ carry words q = omega (arith, carry-lt q) in
      bit-or _ (carry words q) 0 ∙ ap (λ x. x || eqb (bit_at (carry words q) 0) 1) (shl-lowest (get_or words q 0))
      ∙ ap (λ x. eqb x 1) (bit_at_lowest (carry words q) ∙ small)
      ∙ carry-previous q
  shifted-bit q (suc r) low =
      let index : suc (q * 64 + r) ≡ q * 64 + suc r = omega arith in
      bit-or _ (carry words q) (suc r) ∙ ap (λ x. eqb (bit_at (get_or words q 0 * 2 % 18446744073709551616) (suc r)) 1
      || eqb x 1) (bit_at_above (carry words q) 1 (suc r) (carry-lt q) (omega arith))
      ∙ or-false _ ∙ ap (λ x. eqb x 1) (shl-others (get_or words q 0) r (omega (arith, low)))
      ∙ sym (has_bit-at words q r (omega (arith, low))) ∙ ap (previous words) index
