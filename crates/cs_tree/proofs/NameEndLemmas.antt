-- The last byte of a name, and the last element of a path.
use lib.Utf8.{encode}
use Rattle.cs_tree.specs.Folders.{last_element}
use Rattle.std.proofs.Common.{◌≡◌, ◌≢◌, ℕ, suc, ◌-◌, ◌<◌, false, not, List, [], ◌∷◌, length, drop, get_or, refl, sym, ap, ◌∙◌, eqb, Option, Some, None, Bor, arith}
use Rattle.std.proofs.lemmas.Bool.{ne_eqb, eq-eqb, eqb-true}
use Rattle.std.proofs.Math.Bool.{and-true}
use Rattle.std.proofs.lemmas.List.Sums.{suffix_len_is}
use Rattle.std.proofs.lemmas.Str.Pattern.{NoCharPasses-char}
use Rattle.std.specs.List.{suffix_len, slice_get, ends_with}
use Rattle.std.specs.Prelude.{codes, bytes_eq}
use Rattle.std.specs.Cmp.{both_ways as same_tests}
use Rattle.std.specs.Path.{slash}
use Rattle.std.specs.Option.{MatchOption}
use Rattle.std.specs.Str.Pattern.{RFindsChar, SplitsAroundMatch}
use Rattle.cs_tree.proofs.SplitLemmas.{rsplit_says, last_element-last}

-- the text from its last byte on
last_from : (name : List ℕ) (b : ℕ) → slice_get name (length name - 1) ≡ Some b → drop (length name - 1) name ≡ b ∷ []
last_from [] b h = cc h
last_from (a ∷ []) b h = let e : a ≡ b = cc h in ap (λ x. x ∷ []) e
last_from (a ∷ c ∷ rest) b h =
    let one_more : length (a ∷ c ∷ rest) - 1 ≡ suc (length (c ∷ rest) - 1) = omega arith in
    ap (λ n. drop n (a ∷ c ∷ rest)) one_more ∙ last_from (c ∷ rest) b (sym (ap (slice_get (a ∷ c ∷ rest)) one_more) ∙ h)

pub tilde_last : (name : List ℕ) (b : ℕ) → slice_get name (length name - 1) ≡ Some b → ends_with eqb name (codes "~") ≡ eqb b 126
tilde_last name b h = ap (bytes_eq (codes "~")) (last_from name b h) ∙ and-true (eqb 126 b)
    ∙ same_tests _ _ (λ e. eq-eqb b 126 (sym (eqb-true 126 b e))) (λ e. eq-eqb 126 b (sym (eqb-true b 126 e)))

pub tilde_none : (name : List ℕ) → slice_get name (length name - 1) ≡ None → ends_with eqb name (codes "~") ≡ false
tilde_none [] h = refl
tilde_none (a ∷ []) h = cc h
tilde_none (a ∷ c ∷ rest) h =
    let one_more : length (a ∷ c ∷ rest) - 1 ≡ suc (length (c ∷ rest) - 1) = omega arith in
    ap (λ n. bytes_eq (codes "~") (drop n (a ∷ c ∷ rest))) one_more
    ∙ tilde_none (c ∷ rest) (sym (ap (slice_get (a ∷ c ∷ rest)) one_more) ∙ h)

-- a path without a slash is its last element
name_plain : (path : List ℕ) → ((i : ℕ) → i < length path → get_or path i 0 ≢ slash) → last_element path ≡ path
name_plain path free =
    ap (λ n. drop n path) (whole (suffix_len_is (λ b. not (eqb b slash)) path 0 0 (omega arith)
    (λ k above below. ap not (ne_eqb (get_or path k 0) slash (free k below))) (λ some. absurd (omega (arith, some)))))
  where
    whole : suffix_len (λ b. not (eqb b slash)) path ≡ length path - 0 → length path - suffix_len (λ b. not (eqb b slash)) path ≡ 0
    whole e = omega (arith, e)

pub name_after : (path : List ℕ) (result : Option (Bor (List ℕ) × Bor (List ℕ))) →
    MatchOption result (RFindsChar slash path None) (λ x. SplitsAroundMatch (RFindsChar slash) path x.0.now x.1.now) →
    MatchOption result (last_element path ≡ path) (λ parts. last_element path ≡ parts.1.now)
unfolding encode
name_after path None h = name_plain path (λ i. NoCharPasses-char slash path i h (omega arith))
name_after path (Some parts) h = last_element-last path parts.0.now parts.1.now (rsplit_says path (Some parts) h)
