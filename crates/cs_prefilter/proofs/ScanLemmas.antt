-- Offsets at which no word occurs.
use Rattle.std.proofs.Common.{◌≡◌, ℕ, ◌+◌, ◌-◌, ◌<◌, ◌≤◌, ◌^◌, List, length, get_or, ap, sym, subst, ◌∙◌, inl, inr, w64, arith}
use Rattle.std.specs.Prelude.{All, Any}
use Rattle.std.specs.Int.{trailing_zeros}
use Rattle.std.proofs.lemmas.Bool.{cases_lt, cases_eq}
use Rattle.std.proofs.lemmas.List.{get_or_default}
use Rattle.std.proofs.lemmas.Nat.{trailing_le}
use Rattle.cs_syntax.specs.Matching.{member}
use Rattle.cs_prefilter.specs.declared.word.Word.{Word}
use Rattle.cs_prefilter.specs.WordAt.{WordAt, NoWordFrom}
use Rattle.cs_prefilter.specs.Probe.{MarksBits, MarksBuckets, NoneFrom}
use Rattle.cs_prefilter.specs.WordBuckets.{AreFound, AreInBuckets}
use Rattle.cs_prefilter.specs.WordStop.{NoneUnmarked}
use Rattle.cs_prefilter.proofs.WordBucketLemmas.{in_a_part}
use Rattle.cs_prefilter.proofs.BitLemmas.{below_lowest, without_lowest, other_bit_kept}

-- a word also occurs in a copy with more bytes behind
pub occurs_in_copy : (text last : List ℕ) (from n k : ℕ) (word : Word) → from + n ≡ length text → n ≤ length last
    → ((j : ℕ) → j < n → get_or last j 0 ≡ get_or text (from + j) 0) → WordAt text (from + k) word → WordAt last k word
occurs_in_copy text last from n k word end short same occurs = record {
  before = λ some.
      let there : from + (k - 1) ≡ from + k - 1 = omega (arith, some) in
      ap (member word.before) (same (k - 1) (omega (arith, some, occurs.within, end)) ∙ ap (λ j. get_or text j 0) there)
      ∙ occurs.before (omega (arith, some));
  within = omega (arith, occurs.within, end, short);
  each = λ i d lt.
      let there : from + (k + i) ≡ from + k + i = omega arith in
      ap (member (get_or word.sets.items i d)) (same (k + i) (omega (arith, lt, occurs.within, end)) ∙ ap (λ j. get_or text j 0) there)
      ∙ occurs.each i d lt;
}

module _ (words : List Word) (text : List ℕ) where
  -- none of the words occurs at the offset
  abbrev pub NoneAt : ℕ → Type 0
  NoneAt k = All (λ word. WordAt text k word → ⊥) words

  pub none_at : (k : ℕ) → (Any (WordAt text k) words → ⊥) → NoneAt k
  none_at k none i d within occurs =
      none (i, get_or words i d, within, get_or_default words i (get_or words i d) d within, occurs)

  pub none_joined : (from mid to : ℕ) → NoWordFrom words text from mid → NoWordFrom words text mid to → NoWordFrom words text from to
  none_joined from mid to first second k low high = elim (cases_lt k mid) [
    | inl before ↦ first k low before
    | inr after ↦ second k after high
  ]

  pub none_before_lowest : (offset m to : ℕ) → m < 2 ^ 64 → NoneUnmarked words text offset m → to ≤ offset + trailing_zeros w64 m
      → to ≤ length text → NoWordFrom words text offset to
  none_before_lowest offset m to fits none near within k low high =
      let j = k - offset in
      let below : j < trailing_zeros w64 m = omega (arith, low, high, near) in
      let there : offset + j ≡ k = omega (arith, low) in
      subst NoneAt there (none j (omega (arith, below, trailing_le 64 m)) (omega (arith, low, high, within)) (below_lowest w64 m j fits below))

  pub none_cleared : (offset m : ℕ) → 0 < m → m < 2 ^ 64 → NoneUnmarked words text offset m
      → (offset + trailing_zeros w64 m < length text → Any (WordAt text (offset + trailing_zeros w64 m)) words → ⊥)
      → NoneUnmarked words text offset (without_lowest w64 m)
  none_cleared offset m some fits none not_here k below inside clear = elim (cases_eq k (trailing_zeros w64 m)) [
    | inl here ↦ subst (λ (j : ℕ). NoneAt (offset + j)) (sym here) (none_at (offset + trailing_zeros w64 m)
        (not_here (omega (arith, inside, here))))
    | inr other ↦ none k below inside (sym (other_bit_kept w64 m some fits k below other) ∙ clear)
  ]

  module _ (Finds : ℕ → Word → Type 0) (found : AreFound Finds words) where
    pub none_unmarked : (offset marks : ℕ) → MarksBits Finds text offset marks → NoneUnmarked words text offset marks
    none_unmarked offset marks set k below inside clear i d within occurs =
        let part = in_a_part (length words) i within in
        absurd (omega (arith, clear, set k part.0 (get_or words i d) below (found i part.0 d within part.2) occurs))

    pub none_found : (from to : ℕ) → NoneFrom Finds text from to → NoWordFrom words text from to
    none_found from to none k low high i d within occurs =
        let part = in_a_part (length words) i within in
        none k part.0 (get_or words i d) low high (found i part.0 d within part.2) occurs

    pub in_buckets : (offset buckets : ℕ) → MarksBuckets Finds text offset buckets → AreInBuckets words buckets text offset
    in_buckets offset buckets set i bucket d within part occurs = set bucket (get_or words i d) (found i bucket d within part) occurs

    pub none_unmarked_in_copy : (last : List ℕ) (from n base marks : ℕ) → MarksBits Finds last base marks
        → from + n ≡ length text → n ≤ length last → ((j : ℕ) → j < n → get_or last j 0 ≡ get_or text (from + j) 0)
        → NoneUnmarked words text (from + base) marks
    none_unmarked_in_copy last from n base marks set end short same k below inside clear i d within occurs =
        let there : from + base + k ≡ from + (base + k) = omega arith in
        let word = get_or words i d in
        let copied = occurs_in_copy text last from n (base + k) word end short same (subst (λ (j : ℕ). WordAt text j word) there occurs) in
        let part = in_a_part (length words) i within in
        absurd (omega (arith, clear, set k part.0 word below (found i part.0 d within part.2) copied))
