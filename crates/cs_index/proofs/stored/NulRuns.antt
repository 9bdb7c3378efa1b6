-- Strings that are found by their NULs.
use Rattle.std.proofs.Common.{◌≡◌, ◌≢◌, ℕ, zero, suc, ◌+◌, ◌-◌, ◌<◌, ◌≤◌, List, [], ◌∷◌, ◌++◌, length, get_or, take, drop, refl, sym, ap, cond, ◌∙◌, inl, inr, arith, length-drop}
use Rattle.std.proofs.lemmas.Bool.{ne_eqb}
use Rattle.std.proofs.lemmas.List.{get_or-drop}
use Rattle.std.proofs.lemmas.List.Sums.{sum_by-cons}
use Rattle.std.specs.List.{AllByRecursion, count_by}
use Rattle.cs_index.specs.Encoding.{with_nul}
use Rattle.cs_index.specs.Nuls.{AreTextsTo, is_nul}
use Rattle.cs_index.specs.ValidSections.{HasNoText}
use Rattle.cs_index.proofs.decoding.StringScan.{above_all, none_ended, none_left, nul_first}
use Rattle.cs_index.proofs.stored.TextRuns.{ArePlain, plain_more}

-- the bytes end by a NUL, and none of them follows another one
record IsRun (bytes : List ℕ) (len : ℕ) : Type 0 where
  within : len ≤ length bytes
  ended : get_or bytes (len - 1) 0 ≡ 0
  apart : (k : ℕ) → suc k < len → get_or bytes k 0 ≡ 0 → get_or bytes (suc k) 0 ≡ 0 → ⊥

shorter : (b : ℕ) (bytes : List ℕ) (len : ℕ) → IsRun (b ∷ bytes) (suc (suc len)) → IsRun bytes (suc len)
shorter b bytes len is = record {
  within = omega (arith, is.within);
  ended = ap (λ n. get_or bytes n 0) (let z : suc len - 1 ≡ len = omega arith in z)
      ∙ ap (λ n. get_or (b ∷ bytes) n 0) (let z : suc len ≡ suc (suc len) - 1 = omega arith in z) ∙ is.ended;
  apart = λ k low. is.apart (suc k) (omega (arith, low));
}

-- what is left of the first string, which may be only its NUL, and the strings after it
record Begun (bytes : List ℕ) (len : ℕ) : Type 0 where
  text : List ℕ
  next : List ℕ
  texts : List (List ℕ)
  is : bytes ≡ with_nul text ++ next
  above : AllByRecursion (λ b. 0 < b) text
  plain : ArePlain (drop len bytes) texts next
  count : count_by is_nul (take len bytes) ≡ suc (length texts)

begun : (bytes : List ℕ) (len : ℕ) → IsRun bytes (suc len) → Begun bytes (suc len)
begun [] len is = absurd (omega (arith, is.within))
begun (zero ∷ bytes) zero is = record {
  text = [];
  next = bytes;
  texts = [];
  is = refl;
  above = tt;
  plain = (tt, refl);
  count = refl;
}
begun (zero ∷ bytes) (suc len) is =
    let later = begun bytes len (shorter zero bytes len is) in
    let some : later.text ≢ [] = λ none. is.apart 0 (omega arith) refl
    (ap (λ (xs : List ℕ). get_or xs 0 0) (later.is ∙ ap (λ (t : List ℕ). with_nul t ++ later.next) none)) in
    record {
      text = [];
      next = bytes;
      texts = later.text ∷ later.texts;
      is = refl;
      above = tt;
      plain = plain_more bytes later.text later.next (drop (suc len) bytes) later.texts later.is (some, later.above) later.plain;
      count = sum_by-cons (λ b. cond (is_nul b) 1 0) zero (take (suc len) bytes)
          ∙ (let h : 1 + count_by is_nul (take (suc len) bytes) ≡ suc (suc (length later.texts)) = omega (arith, later.count) in h);
    }
begun (suc b ∷ bytes) zero is = absurd (omega (arith, is.ended))
begun (suc b ∷ bytes) (suc len) is =
    let later = begun bytes len (shorter (suc b) bytes len is) in
    record {
      text = suc b ∷ later.text;
      next = later.next;
      texts = later.texts;
      is = ap (λ (xs : List ℕ). suc b ∷ xs) later.is;
      above = (omega arith, later.above);
      plain = later.plain;
      count = sum_by-cons (λ b. cond (is_nul b) 1 0) (suc b) (take (suc len) bytes)
          ∙ ap (λ t. cond t 1 0 + count_by is_nul (take (suc len) bytes)) (ne_eqb (suc b) 0 (λ e. absurd (omega (arith, e))))
          ∙ (let h : 0 + count_by is_nul (take (suc len) bytes) ≡ suc (length later.texts) = omega (arith, later.count) in h);
    }

-- the strings up to an offset
pub texts_to : (bytes : List ℕ) (len : ℕ) → AreTextsTo bytes len → (texts : List (List ℕ))
    × ArePlain (drop len bytes) texts bytes × (count_by is_nul (take len bytes) ≡ length texts)
texts_to bytes zero are = ([], (tt, refl), refl)
texts_to bytes (suc len) are =
    let run : IsRun bytes (suc len) = record {
      within = are.within;
      ended = are.ended (omega arith);
      apart = λ k low first second. are.each (suc k) low
          (second, λ _. ap (λ n. get_or bytes n 0) (let z : suc k - 1 ≡ k = omega arith in z) ∙ first);
    } in
    let found = begun bytes len run in
    let some : found.text ≢ [] = λ none. are.each 0 (omega arith)
    (ap (λ (xs : List ℕ). get_or xs 0 0) (found.is ∙ ap (λ (t : List ℕ). with_nul t ++ found.next) none), λ low. absurd (omega (arith, low))) in (
      found.text ∷ found.texts,
      plain_more bytes found.text found.next (drop (suc len) bytes) found.texts found.is (some, found.above) found.plain,
      found.count,
    )

-- no string follows
pub none_after : (bytes : List ℕ) (len : ℕ) → AreTextsTo bytes len → HasNoText (drop len bytes)
none_after bytes len are = elim are.rest [
  | inl nul ↦ none_left (drop len bytes) (nul_first (drop len bytes) (get_or-drop len bytes 0 0
      ∙ ap (λ k. get_or bytes k 0) (let same : len + 0 ≡ len = omega arith in same) ∙ nul.1))
  | inr none ↦ none_ended (drop len bytes) (above_all (drop len bytes) (λ k low e.
      none (len + k) (omega arith) (let l = length-drop len bytes in omega (arith, l, low))
      (sym (get_or-drop len bytes k 0) ∙ e)))
]
