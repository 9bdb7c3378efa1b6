-- Eight bytes as one number, and the prefixes of words.
use Rattle.std.proofs.Common.{◌≡◌, ℕ, zero, suc, ◌+◌, ◌-◌, ◌*◌, ◌<◌, ◌≤◌, ◌^◌, Bool, List, [], ◌∷◌, length, get_or, set, inl, inr, ◌++◌, ap, sym, subst, ◌∙◌, add-zero, true, refl, bit_or, w64, arith}
use Rattle.std.specs.Int.{from_le_bytes}
use Rattle.std.specs.Int.Bits.{or_zero_r}
use Rattle.std.proofs.lemmas.Bool.{cases_lt}
use Rattle.std.proofs.lemmas.List.{get_or_append_left, get_or-set_same, get_or-set_other}
use Rattle.std.proofs.Math.Seq.{get_or-append_seam}
use Rattle.std.specs.Simd.Lanes.{zip2}
use Rattle.std.proofs.lemmas.Nat.{or_block, or_of_8}
use Rattle.cs_prefilter.specs.declared.word.Word.{Word}
use Rattle.cs_prefilter.specs.declared.comparing.Prefix.{Prefix}
use Rattle.cs_prefilter.specs.declared.probe.ByteTest.{ByteTest}
use Rattle.cs_prefilter.specs.WordAt.{WordAt}
use Rattle.cs_prefilter.specs.Prefixes.{eight, MayFollowAny, TestsByte, IsPrefixOf}

-- the number with these bytes, the first as the lowest
abbrev pub joined : List ℕ → ℕ
joined [] = 0
joined (b ∷ bs) = joined bs * 2 ^ 8 + b

-- each is a byte
abbrev pub AreSmall : List ℕ → Type 0
AreSmall [] = Unit {0}
AreSmall (b ∷ bs) = (b < 2 ^ 8) × AreSmall bs

pub or_joined : (xs bs : List ℕ) → length xs ≡ length bs → AreSmall xs → AreSmall bs
    → bit_or (joined xs) (joined bs) ≡ joined (zip2 bit_or xs bs)
or_joined [] [] same small_a small_b = or_zero_r 0
or_joined [] (b ∷ bs) same small_a small_b = absurd (omega (arith, same))
or_joined (a ∷ xs) [] same small_a small_b = absurd (omega (arith, same))
or_joined (a ∷ xs) (b ∷ bs) same small_a small_b =
    or_block 8 (joined xs) (joined bs) a b small_a.0 small_b.0
    ∙ ap (λ n. n * 2 ^ 8 + bit_or a b) (or_joined xs bs (omega (arith, same)) small_a.1 small_b.1)

-- numbers that are equal have the same bytes
pub joined_same : (xs bs : List ℕ) → length xs ≡ length bs → AreSmall xs → AreSmall bs → joined xs ≡ joined bs → xs ≡ bs
joined_same [] [] same small_a small_b e = refl
joined_same [] (b ∷ bs) same small_a small_b e = absurd (omega (arith, same))
joined_same (a ∷ xs) [] same small_a small_b e = absurd (omega (arith, same))
joined_same (a ∷ xs) (b ∷ bs) same small_a small_b e =
    let first : a ≡ b = omega (arith, e, small_a.0, small_b.0) in
    let rest : joined xs ≡ joined bs = omega (arith, e, small_a.0, small_b.0) in
    (λ i. first i ∷ joined_same xs bs (omega (arith, same)) small_a.1 small_b.1 rest i)

pub of_eight : (a b c d e f g h : ℕ) → from_le_bytes w64 (a ∷ b ∷ c ∷ d ∷ e ∷ f ∷ g ∷ h ∷ [])
    ≡ joined (a ∷ b ∷ c ∷ d ∷ e ∷ f ∷ g ∷ h ∷ [])
of_eight a b c d e f g h = omega arith

-- what holds of 0 to 7 holds of each number below 8
pub below_eight : (P : ℕ → Type 0) → P 0 → P 1 → P 2 → P 3 → P 4 → P 5 → P 6 → P 7 → (i : ℕ) → i < 8 → P i
below_eight P a b c d e f g h zero lt = a
below_eight P a b c d e f g h (suc zero) lt = b
below_eight P a b c d e f g h (suc (suc zero)) lt = c
below_eight P a b c d e f g h (suc (suc (suc zero))) lt = d
below_eight P a b c d e f g h (suc (suc (suc (suc zero)))) lt = e
below_eight P a b c d e f g h (suc (suc (suc (suc (suc zero))))) lt = f
below_eight P a b c d e f g h (suc (suc (suc (suc (suc (suc zero)))))) lt = g
below_eight P a b c d e f g h (suc (suc (suc (suc (suc (suc (suc zero))))))) lt = h
below_eight P a b c d e f g h (suc (suc (suc (suc (suc (suc (suc (suc i)))))))) lt = absurd (omega (arith, lt))

abbrev pub list_of_eight : (ℕ → ℕ) → List ℕ
list_of_eight f = f 0 ∷ f 1 ∷ f 2 ∷ f 3 ∷ f 4 ∷ f 5 ∷ f 6 ∷ f 7 ∷ []

small_eight : (f : ℕ → ℕ) → ((i : ℕ) → f i < 256) → AreSmall (list_of_eight f)
small_eight f small = (small 0, (small 1, (small 2, (small 3, (small 4, (small 5, (small 6, (small 7, tt))))))))

-- the tests of two lists of numbers, all of them exact or none
abbrev pub byte_of : List ℕ → List ℕ → Bool → ℕ → (ByteTest × Bool)
byte_of mask bytes is_exact i = (record { mask = get_or mask i 0; byte = get_or bytes i 0 }, is_exact)

-- the same test, exact only if the other is
tests_as : (word : Word) (i : ℕ) (a b : ByteTest × Bool) → b.0.mask ≡ a.0.mask → b.0.byte ≡ a.0.byte
    → (b.1 ≡ true → a.1 ≡ true) → TestsByte word i a → TestsByte word i b
tests_as word i a b mask_is byte_is exact_is tests = record {
  small = (subst (λ n. n < 256) (sym mask_is) tests.small.0, subst (λ n. n < 256) (sym byte_is) tests.small.1);
  passes = λ c small has. ap (bit_or c) mask_is ∙ tests.passes c small has ∙ sym byte_is;
  exact = λ is c small pass. tests.exact (exact_is is) c small (ap (bit_or c) (sym mask_is) ∙ pass ∙ byte_is);
}

-- one more test in the lists
pub tests_more : (word : Word) (mask bytes : List ℕ) (was is : Bool) (n : ℕ) (byte : ByteTest × Bool) → n < length mask → n < length bytes
    → ((i : ℕ) → i < n → TestsByte word i (byte_of mask bytes was i)) → TestsByte word n byte
    → (is ≡ true → (was ≡ true) × (byte.1 ≡ true))
    → (i : ℕ) → i < n + 1 → TestsByte word i (byte_of (set mask n byte.0.mask) (set bytes n byte.0.byte) is i)
tests_more word mask bytes was is n byte in_mask in_bytes each last both i lt = elim (cases_lt i n) [
  | inl before ↦
      let other : i ≡ n → ⊥ = λ same. absurd (omega (arith, same, before)) in
      tests_as word i (byte_of mask bytes was i) _ (get_or-set_other mask n i byte.0.mask 0 other)
      (get_or-set_other bytes n i byte.0.byte 0 other) (λ e. (both e).0) (each i before)
  | inr after ↦
      let here : n ≡ i = omega (arith, lt, after) in
      subst (λ (j : ℕ). TestsByte word j (byte_of (set mask n byte.0.mask) (set bytes n byte.0.byte) is j)) here
      (tests_as word n byte _ (get_or-set_same mask n byte.0.mask 0 in_mask) (get_or-set_same bytes n byte.0.byte 0 in_bytes)
      (λ e. (both e).1) last)
]

-- the prefix that eight tests make
module _ (word : Word) (byte : ℕ → (ByteTest × Bool)) (tests : (i : ℕ) → i < 8 → TestsByte word i (byte i)) where
  abbrev mask_at : ℕ → ℕ
  mask_at i = (byte i).0.mask

  abbrev byte_at : ℕ → ℕ
  byte_at i = (byte i).0.byte

  small_masks : AreSmall (list_of_eight mask_at)
  small_masks = (
    (tests 0 (omega arith)).small.0,
    (
      (tests 1 (omega arith)).small.0,
      (
        (tests 2 (omega arith)).small.0,
        (
          (tests 3 (omega arith)).small.0,
          ((tests 4 (omega arith)).small.0, ((tests 5 (omega arith)).small.0, ((tests 6 (omega arith)).small.0, ((tests 7 (omega arith)).small.0, tt)))),
        ),
      ),
    ),
  )

  small_bytes : AreSmall (list_of_eight byte_at)
  small_bytes = (
    (tests 0 (omega arith)).small.1,
    (
      (tests 1 (omega arith)).small.1,
      (
        (tests 2 (omega arith)).small.1,
        (
          (tests 3 (omega arith)).small.1,
          ((tests 4 (omega arith)).small.1, ((tests 5 (omega arith)).small.1, ((tests 6 (omega arith)).small.1, ((tests 7 (omega arith)).small.1, tt)))),
        ),
      ),
    ),
  )

  module _ (text : List ℕ) (k : ℕ) (bytes : (i : ℕ) → get_or text i 0 < 256) where
    abbrev text_at : ℕ → ℕ
    text_at i = get_or text (k + i) 0

    abbrev masked : ℕ → ℕ
    masked i = bit_or (text_at i) (mask_at i)

    eight_is : eight text k ≡ joined (list_of_eight text_at)
    eight_is =
        ap (λ j. from_le_bytes w64 (get_or text j 0 ∷ text_at 1 ∷ text_at 2 ∷ text_at 3 ∷ text_at 4 ∷ text_at 5 ∷ text_at 6 ∷ text_at 7 ∷ []))
        (sym (add-zero k)) ∙ of_eight _ _ _ _ _ _ _ _

    masked_is : (mask : ℕ) → mask ≡ joined (list_of_eight mask_at) → bit_or (eight text k) mask ≡ joined (list_of_eight masked)
    masked_is mask is =
        (λ i. bit_or (eight_is i) (is i))
        ∙ or_joined (list_of_eight text_at) (list_of_eight mask_at) refl (small_eight text_at (λ i. bytes (k + i))) small_masks

    passes_where : WordAt text k word → (i : ℕ) → (lt : i < 8) → masked i ≡ byte_at i
    passes_where occurs i lt = (tests i lt).passes (text_at i) (bytes (k + i)) (λ d within. occurs.each i d within)

    small_masked : AreSmall (list_of_eight masked)
    small_masked = (
      s 0 (omega arith),
      (s 1 (omega arith), (s 2 (omega arith), (s 3 (omega arith), (s 4 (omega arith), (s 5 (omega arith), (s 6 (omega arith), (s 7 (omega arith), tt))))))),
    )
      where
        s : (i : ℕ) → i < 8 → masked i < 2 ^ 8
        s i lt = or_of_8 (text_at i) (mask_at i) (bytes (k + i)) (tests i lt).small.0

  pub prefix_of : (prefix : Prefix) → prefix.mask ≡ joined (list_of_eight mask_at) → prefix.bytes ≡ joined (list_of_eight byte_at)
      → (prefix.is_whole ≡ true → (length word.sets.items ≤ 8) × MayFollowAny word × ((i : ℕ) → i < 8 → (byte i).1 ≡ true)) → IsPrefixOf word prefix
  prefix_of prefix mask_is bytes_is whole_is = record {
    passes = λ text k bytes occurs.
        let e = passes_where text k bytes occurs in
        masked_is text k bytes prefix.mask mask_is
        ∙ (λ i. joined (
        e 0 (omega arith) i ∷ e 1 (omega arith) i ∷ e 2 (omega arith) i ∷ e 3 (omega arith) i ∷ e 4 (omega arith) i
        ∷ e 5 (omega arith) i ∷ e 6 (omega arith) i ∷ e 7 (omega arith) i ∷ []))
        ∙ sym bytes_is;
    whole = λ is_whole text k bytes within pass.
        let same : list_of_eight (masked text k bytes) ≡ list_of_eight byte_at =
        joined_same _ _ refl (small_masked text k bytes) small_bytes (sym (masked_is text k bytes prefix.mask mask_is) ∙ pass ∙ bytes_is) in
        let each = below_eight (λ i. masked text k bytes i ≡ byte_at i)
        (ap (λ l. get_or l 0 0) same) (ap (λ l. get_or l 1 0) same) (ap (λ l. get_or l 2 0) same) (ap (λ l. get_or l 3 0) same)
        (ap (λ l. get_or l 4 0) same) (ap (λ l. get_or l 5 0) same) (ap (λ l. get_or l 6 0) same) (ap (λ l. get_or l 7 0) same) in
        let exact = whole_is is_whole in
        record {
          before = λ some. exact.1 (get_or text (k - 1) 0) (bytes (k - 1));
          within = omega (arith, within, exact.0);
          each = λ i d lt.
              let below : i < 8 = omega (arith, lt, exact.0) in
              (tests i below).exact (exact.2 i below) (get_or text (k + i) 0) (bytes (k + i)) (each i below) d lt;
        };
  }

-- one more word with its prefix
pub prefixes_more : (words : List Word) (prefixes : List Prefix) (n : ℕ) (word : Word) (prefix : Prefix) → length prefixes ≡ n
    → ((i : ℕ) (d : Word) (e : Prefix) → i < n → IsPrefixOf (get_or words i d) (get_or prefixes i e))
    → ((d : Word) → get_or words n d ≡ word) → IsPrefixOf word prefix
    → (i : ℕ) (d : Word) (e : Prefix) → i < n + 1 → IsPrefixOf (get_or words i d) (get_or (prefixes ++ prefix ∷ []) i e)
prefixes_more words prefixes n word prefix long each last is i d e lt = elim (cases_lt i n) [
  | inl before ↦ subst (λ (f : Prefix). IsPrefixOf (get_or words i d) f)
      (sym (get_or_append_left prefixes (prefix ∷ []) e i (omega (arith, before, long)))) (each i d e before)
  | inr after ↦
      let here : n ≡ i = omega (arith, lt, after) in
      let at : get_or (prefixes ++ prefix ∷ []) i e ≡ prefix =
      ap (λ k. get_or (prefixes ++ prefix ∷ []) k e) (let same : i ≡ length prefixes = omega (arith, here, long) in same) ∙ get_or-append_seam prefixes prefix [] e in
      subst (λ (f : Prefix). IsPrefixOf (get_or words i d) f) (sym at)
      (subst (λ (w : Word). IsPrefixOf w prefix) (sym (last d) ∙ ap (λ k. get_or words k d) here) is)
]
