-- Runs of strings whose UTF-8 is tested as a whole: a NUL is a character of its own.
use Rattle.std.proofs.Common.{◌≡◌, ◌≢◌, ℕ, zero, suc, ◌+◌, ◌-◌, ◌<◌, false, List, [], ◌∷◌, ◌++◌, length, get_or, take, drop, refl, sym, ap, subst, ◌∙◌, inl, inr, arith, append_assoc, length-append}
use Rattle.std.proofs.Math.Seq.{take-append_seam}
use Rattle.std.proofs.lemmas.Bool.{cases_Bool, true≢false}
use Rattle.std.proofs.lemmas.Str.{IsCharBoundary-after_ascii, IsUtf8-append, IsUtf8-drop, IsUtf8-from_ascii, IsUtf8-from_is_utf8, IsUtf8-nil, IsUtf8-take, is_utf8-from_IsUtf8}
use Rattle.std.specs.Str.{is_utf8, IsAscii, IsCharBoundary, IsUtf8}
use Rattle.std.specs.List.{AllByRecursion}
use Rattle.cs_index.specs.Encoding.{with_nul, IsString}
use Rattle.cs_index.specs.SectionPieces.{IsNoSection}
use Rattle.cs_index.proofs.stored.SectionPieces.{none_on, run_bytes, string_more, text_no}

-- a string, whose UTF-8 is not tested yet
abbrev pub IsPlain : List ℕ → Type 0
IsPlain text = (text ≢ []) × AllByRecursion (λ b. 0 < b) text

abbrev pub ArePlain : List ℕ → List (List ℕ) → List ℕ → Type 0
ArePlain tail texts bytes = AllByRecursion IsPlain texts × (bytes ≡ run_bytes texts ++ tail)

pub plain_more : (section text next tail : List ℕ) (texts : List (List ℕ)) → section ≡ with_nul text ++ next →
    IsPlain text → ArePlain tail texts next → ArePlain tail (text ∷ texts) section
plain_more section text next tail texts e is plain =
    ((is, plain.0), e ∙ ap (λ r. with_nul text ++ r) plain.1 ∙ sym (append_assoc (with_nul text) (run_bytes texts) tail))

-- the strings are the first bytes
pub plain_taken : (piece rest : List ℕ) (texts : List (List ℕ)) → piece ≡ run_bytes texts ++ rest →
    take (length piece - length rest) piece ≡ run_bytes texts
plain_taken piece rest texts is =
    let l = ap length is in
    let a = length-append (run_bytes texts) rest in
    let long : length piece - length rest ≡ length (run_bytes texts) = omega (arith, l, a) in
    (λ i. take (long i) (is i)) ∙ take-append_seam (run_bytes texts) rest

-- ---- a NUL between two texts

module _ (text rest : List ℕ) where
  abbrev both : List ℕ
  both = with_nul text ++ rest

  nul_at : (xs : List ℕ) → get_or ((xs ++ 0 ∷ []) ++ rest) (length xs) 0 ≡ 0
  nul_at [] = refl
  nul_at (x ∷ xs) = nul_at xs

  before_it : (xs : List ℕ) → take (length xs) ((xs ++ 0 ∷ []) ++ rest) ≡ xs
  before_it [] = refl
  before_it (x ∷ xs) = ap (λ (t : List ℕ). x ∷ t) (before_it xs)

  after_it : (xs : List ℕ) → drop (suc (length xs)) ((xs ++ 0 ∷ []) ++ rest) ≡ rest
  after_it [] = refl
  after_it (x ∷ xs) = after_it xs

  inside : length text < length both
  inside = let a = length-append (text ++ 0 ∷ []) rest in let b = length-append text (0 ∷ []) in omega (arith, a, b)

  pub nul_parts : IsUtf8 both → IsUtf8 text × IsUtf8 rest
  nul_parts u =
      let nul = nul_at text in
      let start : IsCharBoundary both (length text) = (let l = inside in omega (arith, l), λ h large. absurd (omega (arith, nul, large))) in
      let next : suc (length text) ≡ length text + 1 = omega arith in (
        subst IsUtf8 (before_it text) (IsUtf8-take both (length text) u start),
        subst IsUtf8 (ap (λ n. drop n both) (sym next) ∙ after_it text)
            (IsUtf8-drop both (length text + 1) u (IsCharBoundary-after_ascii both (length text) u inside
            (omega (arith, nul)))),
      )

nul_ascii : IsAscii (0 ∷ [])
nul_ascii zero = omega arith
nul_ascii (suc i) = omega arith

-- ---- runs of strings

pub good_run : (texts : List (List ℕ)) → AllByRecursion IsPlain texts → IsUtf8 (run_bytes texts) → AllByRecursion IsString texts
good_run [] plain u = tt
good_run (text ∷ texts) plain u =
    let parts = nul_parts text (run_bytes texts) u in
    ((plain.0.0, plain.0.1, parts.0), good_run texts plain.1 parts.1)

pub bad_run : (texts : List (List ℕ)) (rest : List ℕ) → AllByRecursion IsPlain texts → is_utf8 (run_bytes texts)
    ≡ false → IsNoSection (run_bytes texts ++ rest)
bad_run [] rest plain bad = absurd (true≢false (sym (is_utf8-from_IsUtf8 [] IsUtf8-nil) ∙ bad))
bad_run (text ∷ texts) rest plain bad = elim (cases_Bool (is_utf8 text)) [
  | inl good ↦
      let u = IsUtf8-from_is_utf8 text good in
      let one = IsUtf8-append text (0 ∷ []) u (IsUtf8-from_ascii (0 ∷ []) nul_ascii) in
      let later : is_utf8 (run_bytes texts) ≡ false = elim (cases_Bool (is_utf8 (run_bytes texts))) [
        | inl fine ↦ absurd (true≢false (sym (is_utf8-from_IsUtf8 (run_bytes (text ∷ texts))
            (IsUtf8-append (with_nul text) (run_bytes texts) one (IsUtf8-from_is_utf8 (run_bytes texts) fine))) ∙ bad))
        | inr wrong ↦ wrong
      ] in
      none_on (run_bytes (text ∷ texts)) (run_bytes texts) rest (text ∷ [])
      (string_more (run_bytes (text ∷ texts)) text (run_bytes texts) (run_bytes texts) [] refl (plain.0.0, plain.0.1, u) (tt, refl))
      (bad_run texts rest plain.1 later)
  | inr wrong ↦ text_no (run_bytes (text ∷ texts)) text (run_bytes texts) rest refl plain.0.1 plain.0.0 wrong
]
