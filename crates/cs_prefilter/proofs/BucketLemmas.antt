-- Buckets of a byte, and of the bytes that a word begins with.
use Rattle.std.proofs.Common.{◌≡◌, ℕ, ◌+◌, ◌*◌, ◌/◌, ◌%◌, ◌^◌, ◌<◌, Bool, true, false, List, [], length, get_or, set, ap, sym, subst, ◌∙◌, bit_or, inl, inr, arith, w8, eqb, not, refl}
use Rattle.std.specs.Int.{bit_at}
use Rattle.std.proofs.lemmas.Bool.{cases_eq, eqb-true}
use Rattle.std.proofs.lemmas.Nat.Bits.{bit_at_set_same}
use Rattle.std.proofs.lemmas.List.{get_or-set_same, get_or-set_other, get_or_default}
use Rattle.cs_prefilter.specs.declared.probe.NibbleMasks.{NibbleMasks}
use Rattle.cs_prefilter.specs.declared.probe.WordMasks.{WordMasks}
use Rattle.cs_prefilter.specs.declared.word.Word.{Word}
use Rattle.cs_prefilter.specs.WordAt.{WordAt}
use Rattle.cs_prefilter.specs.Buckets.{buckets, looked_up, IsInBucket, KeepsByteBuckets, KeepsBuckets, SetIsInBucket, HasBucket}
use Rattle.cs_prefilter.proofs.BitLemmas.{in_both, in_left, in_right, in_either}

-- the table, with the bit of the bucket set in one entry
abbrev pub bit_is_set : List ℕ → ℕ → ℕ → List ℕ
bit_is_set entries at bucket = set entries at (bit_or (get_or entries at 0) (1 * 2 ^ bucket % 2 ^ 8))

bit_set_here : (entries : List ℕ) (at bucket : ℕ) → at < length entries → bucket < 8
    → bit_at (get_or (bit_is_set entries at bucket) at 0) bucket ≡ 1
bit_set_here entries at bucket within small =
    ap (λ n. bit_at n bucket) (get_or-set_same entries at _ 0 within)
    ∙ bit_at_set_same w8 (get_or entries at 0) bucket small

bit_set_keeps : (entries : List ℕ) (at bucket j g : ℕ) → at < length entries → bit_at (get_or entries j 0) g ≡ 1
    → bit_at (get_or (bit_is_set entries at bucket) j 0) g ≡ 1
bit_set_keeps entries at bucket j g within h = elim (cases_eq j at) [
  | inl same ↦
      let P : ℕ → Type 0 = λ n. bit_at n g ≡ 1 in
      subst P (sym (ap (λ i. get_or (bit_is_set entries at bucket) i 0) same ∙ get_or-set_same entries at _ 0 within))
      (in_either (get_or entries at 0) _ g (subst (λ i. bit_at (get_or entries i 0) g ≡ 1) same h))
  | inr other ↦ ap (λ n. bit_at n g) (get_or-set_other entries at j _ 0 other) ∙ h
]

module _ (low high : List ℕ) (at_low at_high bucket : ℕ) (in_low : at_low < length low) (in_high : at_high < length high) where
  -- a byte is in the bucket once the bit is set for its nibbles
  pub IsInBucket-bit_is_set : (byte : ℕ) → byte % 16 ≡ at_low → byte / 16 ≡ at_high → bucket < 8
      → IsInBucket record { low = bit_is_set low at_low bucket; high = bit_is_set high at_high bucket } byte bucket
  unfolding buckets
  IsInBucket-bit_is_set byte is_low is_high small =
      in_both _ _ bucket
      (ap (λ i. bit_at (get_or (bit_is_set low at_low bucket) i 0) bucket) is_low ∙ bit_set_here low at_low bucket in_low small)
      (ap (λ i. bit_at (get_or (bit_is_set high at_high bucket) i 0) bucket) is_high ∙ bit_set_here high at_high bucket in_high small)

  -- other bytes keep their buckets
  pub KeepsByteBuckets-bit_is_set : KeepsByteBuckets record { low = low; high = high }
      record { low = bit_is_set low at_low bucket; high = bit_is_set high at_high bucket }
  unfolding buckets
  KeepsByteBuckets-bit_is_set b g h =
      in_both _ _ g
      (bit_set_keeps low at_low bucket (b % 16) g in_low (in_left _ _ g h))
      (bit_set_keeps high at_high bucket (b / 16) g in_high (in_right _ _ g h))

-- a word keeps its bucket
pub HasBucket-kept : (old new : WordMasks) → KeepsBuckets old new → (bucket : ℕ) (word : Word) → HasBucket old bucket word
    → HasBucket new bucket word
HasBucket-kept old new keeps bucket word of i m within b d small may = keeps i m within b bucket (of i m within b d small may)

-- where a word of the bucket occurs, each of the bytes that have masks is in the bucket
pub in_bucket : (word_masks : WordMasks) (text : List ℕ) (k bucket : ℕ) (word : Word) → ((i : ℕ) → get_or text i 0 < 256)
    → HasBucket word_masks bucket word → WordAt text k word
    → (i : ℕ) (m : NibbleMasks) → i < 5 → IsInBucket (get_or word_masks.at i m) (get_or text (k + i) 0) bucket
in_bucket word_masks text k bucket word bytes of occurs i m within =
    of i m within (get_or text (k + i) 0) [] (bytes (k + i)) (λ lt. occurs.each i [] lt)

-- masks that replace those of an offset, and keep the buckets of a byte
module _ (masks : List NibbleMasks) (i : ℕ) (new : NibbleMasks) (within : i < length masks) where
  pub masks_keep : (old : NibbleMasks) → KeepsByteBuckets (get_or masks i old) new
      → (j : ℕ) (m : NibbleMasks) → KeepsByteBuckets (get_or masks j m) (get_or (set masks i new) j m)
  masks_keep old keeps j m b g h = elim (cases_eq j i) [
    | inl same ↦
        let here = subst (λ n. IsInBucket (get_or masks n m) b g) same h in
        let kept = keeps b g (subst (λ (x : NibbleMasks). IsInBucket x b g) (get_or_default masks i m old within) here) in
        subst (λ (n : ℕ). IsInBucket (get_or (set masks i new) n m) b g) (sym same)
        (subst (λ (x : NibbleMasks). IsInBucket x b g) (sym (get_or-set_same masks i new m within)) kept)
    | inr other ↦ subst (λ (x : NibbleMasks). IsInBucket x b g) (sym (get_or-set_other masks i j new m other)) h
  ]

  pub masks_have : (word : Word) (bucket : ℕ) → ((j : ℕ) (m : NibbleMasks) → j < i → SetIsInBucket (get_or masks j m) word j bucket)
      → SetIsInBucket new word i bucket
      → (j : ℕ) (m : NibbleMasks) → j < i + 1 → SetIsInBucket (get_or (set masks i new) j m) word j bucket
  masks_have word bucket before here j m below = elim (cases_eq j i) [
    | inl same ↦ subst (λ (n : ℕ). SetIsInBucket (get_or (set masks i new) n m) word n bucket) (sym same)
        (subst (λ (x : NibbleMasks). SetIsInBucket x word i bucket) (sym (get_or-set_same masks i new m within)) here)
    | inr other ↦ subst (λ (x : NibbleMasks). SetIsInBucket x word j bucket) (sym (get_or-set_other masks i j new m other))
        (before j m (omega (arith, below, other)))
  ]

-- a byte of a bucket is also in it by its low nibble
pub in_looked_up : (all : Bool) (masks : NibbleMasks) (b g : ℕ) → IsInBucket masks b g → bit_at (looked_up all masks b) g ≡ 1
unfolding buckets
in_looked_up true masks b g set = set
in_looked_up false masks b g set = in_left _ _ g set

-- where a word of the bucket occurs, what is looked up for each of the bytes that have masks has the bucket
pub word_looked_up : (all : Bool) (word_masks : WordMasks) (text : List ℕ) (k bucket : ℕ) (word : Word) → ((i : ℕ) → get_or text i 0 < 256)
    → HasBucket word_masks bucket word → WordAt text k word → (i : ℕ) (m : NibbleMasks) → i < 5 → (at : ℕ) → at ≡ k + i
    → bit_at (looked_up all (get_or word_masks.at i m) (get_or text at 0)) bucket ≡ 1
word_looked_up all word_masks text k bucket word bytes of occurs i m within at there =
    ap (λ (j : ℕ). bit_at (looked_up all (get_or word_masks.at i m) (get_or text j 0)) bucket) there
    ∙ in_looked_up all (get_or word_masks.at i m) (get_or text (k + i) 0) bucket
    (in_bucket word_masks text k bucket word bytes of occurs i m within)

-- a flag that is a number: all nibbles if it is not 0, and low nibbles if it is
pub all_of_flag : (flag : ℕ) (masks : NibbleMasks) (b : ℕ) → (flag ≡ 0 → ⊥) → looked_up (not (eqb flag 0)) masks b ≡ buckets masks b
all_of_flag flag masks b some = by (eqb flag 0) refl
  where
    by : (t : Bool) → eqb flag 0 ≡ t → looked_up (not (eqb flag 0)) masks b ≡ buckets masks b
    by true e = absurd (some (eqb-true flag 0 e))
    by false e = rw e refl

pub low_of_flag : (flag : ℕ) (masks : NibbleMasks) (b : ℕ) → flag ≡ 0 → looked_up (not (eqb flag 0)) masks b ≡ get_or masks.low (b % 16) 0
low_of_flag flag masks b none = rw none refl
