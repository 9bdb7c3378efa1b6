-- Setting a bit in a list of words.
use Rattle.std.proofs.Common.{◌≡◌, ℕ, ◌*◌, ◌/◌, ◌%◌, ◌^◌, ◌<◌, Bool, true, false, eqb, List, length, replicate, get_or, set, sym, ◌∙◌, ap, inl, inr, arith, get_or-set_same, get_or-set_other, eq-eqb, w64}
use Rattle.std.specs.Prelude.{bit_or}
use Rattle.std.specs.Int.{bit_at}
use Rattle.std.proofs.lemmas.List.{length-replicate, get_or-replicate, get_or_past}
use Rattle.std.proofs.lemmas.Bool.{cases_eq, cases_lt}
use Rattle.std.proofs.lemmas.Nat.Bits.{bit_at-zero, bit_at_set_same, bit_at_set_other}
use Rattle.cs_syntax.specs.Bits.{has_bit}

-- words of zero have no bits
pub has_bit-zeros : (n index : ℕ) → has_bit (replicate n 0) index ≡ false
has_bit-zeros n index = ap (λ x. eqb (bit_at x (index % 64)) 1) word ∙ ap (λ x. eqb x 1) (bit_at-zero (index % 64))
  where
    word : get_or (replicate {A = ℕ} n 0) (index / 64) 0 ≡ 0
    word = elim (cases_lt (index / 64) n) [
      | inl within ↦ get_or-replicate n (index / 64) 0 0 within
      | inr past ↦ get_or_past (replicate n 0) (index / 64) 0 (omega (arith, length-replicate {A = ℕ} n 0))
    ]

-- the new word is the old one with one bit set or cleared
pub record IsWithBit (old new index : ℕ) (on : Bool) : Type 0 where
  pub there : eqb (bit_at new index) 1 ≡ on
  pub elsewhere : (i : ℕ) → i < 64 → (i ≡ index → ⊥) → bit_at new i ≡ bit_at old i

-- a word with one more bit set
pub with_one_more : (word index : ℕ) → index < 64 → IsWithBit word (bit_or word (1 * 2 ^ index % 2 ^ 64)) index true
with_one_more word index h = record {
  there = eq-eqb _ 1 (bit_at_set_same w64 word index h);
  elsewhere = λ i _ other. bit_at_set_other w64 word index h i other;
}

module _ (words : List ℕ) (index new : ℕ) (on : Bool)
    (bit : IsWithBit (get_or words (index / 64) 0) new (index % 64) on) (within : index / 64 < length words) where
  pub has_bit-set_same : has_bit (set words (index / 64) new) index ≡ on
  has_bit-set_same = ap (λ x. eqb (bit_at x (index % 64)) 1) (get_or-set_same words (index / 64) new 0 within) ∙ bit.there

  pub has_bit-set_other : (k : ℕ) → (k ≡ index → ⊥) → has_bit (set words (index / 64) new) k ≡ has_bit words k
  has_bit-set_other k other =
      elim (cases_eq (k / 64) (index / 64)) [
        | inl row ↦
            ap (λ x. eqb (bit_at (get_or (set words (index / 64) new) x 0) (k % 64)) 1) row
            ∙ ap (λ x. eqb (bit_at x (k % 64)) 1) (get_or-set_same words (index / 64) new 0 within)
            ∙ ap (λ x. eqb x 1) (bit.elsewhere (k % 64) (omega arith) (λ same. other (omega arith)))
            ∙ ap (λ x. eqb (bit_at (get_or words x 0) (k % 64)) 1) (sym row)
        | inr apart ↦ ap (λ x. eqb (bit_at x (k % 64)) 1) (get_or-set_other words (index / 64) (k / 64) new 0 apart)
      ]
