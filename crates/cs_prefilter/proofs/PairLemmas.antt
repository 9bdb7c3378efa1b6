-- The pairs that pass where a word occurs, and their lanes.
use Rattle.std.proofs.Common.{◌≡◌, ◌≢◌, ◌↔◌, ℕ, ◌+◌, ◌<◌, Bool, true, false, List, get_or, ap, sym, ◌∙◌, bit_and, bit_or, cond, eqb, eq-eqb, not, true≢false, refl, arith}
use Rattle.std.specs.Int.Bits.{and_zero_l}
use Rattle.std.proofs.lemmas.Bool.{eqb-true}
use Rattle.cs_syntax.specs.Matching.{member}
use Rattle.cs_prefilter.specs.declared.word.Word.{Word}
use Rattle.cs_prefilter.specs.declared.probe.ByteTest.{ByteTest}
use Rattle.cs_prefilter.specs.declared.probe.Pair.{Pair}
use Rattle.cs_prefilter.specs.WordAt.{WordAt}
use Rattle.cs_prefilter.specs.ByteTest.{used_mask}
use Rattle.cs_prefilter.specs.Lanes.{full_if_equal}
use Rattle.cs_prefilter.specs.Pairs.{TestsAt, IsPairOf, HasMasks, PassesTest, PassesPair}

-- a flag that is a number: the mask if it is not 0, and no mask if it is
pub mask_of_flag : (flag : ℕ) (test : ByteTest) → (flag ≡ 0 → ⊥) → used_mask (not (eqb flag 0)) test ≡ test.mask
mask_of_flag flag test some = by (eqb flag 0) refl
  where
    by : (t : Bool) → eqb flag 0 ≡ t → used_mask (not (eqb flag 0)) test ≡ test.mask
    by true e = absurd (some (eqb-true flag 0 e))
    by false e = rw e refl

pub no_mask_of_flag : (flag : ℕ) (test : ByteTest) → flag ≡ 0 → used_mask (not (eqb flag 0)) test ≡ 0
no_mask_of_flag flag test none = rw none refl

pub flag_is_set : (flag : ℕ) → flag ≡ 0 → not (eqb flag 0) ≡ true → ⊥
flag_is_set flag none set = true≢false (sym set ∙ (rw none refl))

-- a byte that passes a test also passes without the mask, if there is none
without_mask : (folded : Bool) (test : ByteTest) (b : ℕ) → (folded ≡ false → test.mask ≡ 0) → bit_or b test.mask ≡ test.byte
    → PassesTest folded test b
without_mask folded test b unmasked passes = by folded refl
  where
    by : (f : Bool) → folded ≡ f → PassesTest folded test b
    by true e = rw e passes
    by false e = rw e (ap (bit_or b) (sym (unmasked e)) ∙ passes)

-- where a word occurs, each test of it passes
test_passes : (folded : Bool) (text : List ℕ) (k : ℕ) (word : Word) (test : ByteTest) (at : ℕ) → ((i : ℕ) → get_or text i 0 < 256)
    → WordAt text k word → (folded ≡ false → test.mask ≡ 0) → TestsAt word test at
    → PassesTest folded test (get_or text (k + at) 0)
test_passes folded text k word test at bytes occurs unmasked tests =
    let is_in : member tests.set (get_or text (k + at) 0) ≡ true =
    ap (λ s. member s (get_or text (k + at) 0)) tests.is ∙ occurs.each at tests.set tests.within in
    without_mask folded test _ unmasked ((tests.passes (get_or text (k + at) 0) (bytes (k + at))).0 is_in)

-- where a word occurs, a pair of it passes
pub pair_passes : (folded : Bool) (text : List ℕ) (k : ℕ) (word : Word) (pair : Pair) → ((i : ℕ) → get_or text i 0 < 256)
    → HasMasks folded pair → IsPairOf pair word → WordAt text k word → PassesPair folded pair text k
pair_passes folded text k word pair bytes masks is occurs = (
  test_passes folded text k word pair.first pair.first_at bytes occurs (λ e. (masks e).0) is.first,
  test_passes folded text k word pair.second pair.second_at bytes occurs (λ e. (masks e).1) is.second,
)

-- two lanes are full together if and only if the numbers of both are equal
pub both_full : (a b c d : ℕ) → (bit_and (full_if_equal a b) (full_if_equal c d) ≢ 0) ↔ ((a ≡ b) × (c ≡ d))
both_full a b c d = by (eqb a b) (eqb c d) refl refl
  where
    by : (s t : Bool) → eqb a b ≡ s → eqb c d ≡ t → (bit_and (full_if_equal a b) (full_if_equal c d) ≢ 0) ↔ ((a ≡ b) × (c ≡ d))
    by true true e f = (
      λ some. (eqb-true a b e, eqb-true c d f),
      λ same zero.
          let lane : 255 ≡ 0 = sym (λ i. bit_and (cond (e i) 255 0) (cond (f i) 255 0)) ∙ zero in
          absurd (omega (arith, lane)),
    )
    by true false e f = (
      λ some. absurd (some (λ i. bit_and (cond (e i) 255 0) (cond (f i) 255 0))),
      λ same. absurd (true≢false (sym (eq-eqb c d same.1) ∙ f)),
    )
    by false t e f = (
      λ some. absurd (some ((λ i. bit_and (cond (e i) 255 0) (full_if_equal c d)) ∙ and_zero_l (full_if_equal c d))),
      λ same. absurd (true≢false (sym (eq-eqb a b same.0) ∙ e)),
    )
