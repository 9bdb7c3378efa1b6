-- Appending a string to NUL-terminated strings.
use Rattle.std.proofs.Common.{◌≡◌, ℕ, zero, suc, ◌+◌, ◌-◌, ◌<◌, true, ltb, eqb, not, List, [], ◌∷◌, ◌++◌, length, map, Option, Some, None, refl, sym, ap, ◌∙◌, arith, append_assoc, slice_get}
use Rattle.std.proofs.lemmas.List.{append-nil}
use Rattle.std.proofs.lemmas.Bool.{true≢false, and_parts, ltb-true}
use Rattle.std.specs.Prelude.{IsUtf8}
use Rattle.std.specs.List.{AllByRecursion, list_all, onto_first, concat}
use Rattle.cs_index.specs.Encoding.{with_nul, starts_from, IsString}
use Rattle.cs_index.specs.Built.{is_storable}
use Rattle.cs_index.specs.Strings.{texts_in}

-- a text and its NUL at the start
pub prefix_text : (text rest : List ℕ) → AllByRecursion (λ b. 0 < b) text → texts_in (with_nul text ++ rest) ≡ text ∷ texts_in rest
unfolding texts_in
prefix_text [] rest all = refl
prefix_text (zero ∷ text) rest all = absurd (omega (arith, all.0))
prefix_text (suc b ∷ text) rest all = ap (onto_first (suc b)) (prefix_text text rest all.1)

pub joined_push : (texts : List (List ℕ)) (text : List ℕ) → concat (map with_nul (texts ++ text ∷ []))
    ≡ concat (map with_nul texts) ++ with_nul text
joined_push [] text = append-nil (with_nul text)
joined_push (t ∷ texts) text = ap (λ rest. with_nul t ++ rest) (joined_push texts text)
    ∙ sym (append_assoc (with_nul t) (concat (map with_nul texts)) (with_nul text))

-- what the test of a text means
above_zero : (text : List ℕ) → list_all (λ c. ltb 0 c) text ≡ true → AllByRecursion (λ b. 0 < b) text
above_zero [] h = tt
above_zero (b ∷ text) h = let both = and_parts (ltb 0 b) (list_all (λ c. ltb 0 c) text) h in (ltb-true 0 b both.0, above_zero text both.1)

pub storable_is : (text : List ℕ) → is_storable text ≡ true → IsUtf8 text → IsString text
storable_is [] h utf8 = absurd (true≢false (sym h))
storable_is (b ∷ text) h utf8 =
    let both = and_parts (not (eqb (length (b ∷ text)) 0)) (list_all (λ c. ltb 0 c) (b ∷ text)) h in
    ((λ e. cc), above_zero (b ∷ text) both.1, utf8)

pub length-starts_from : (at : ℕ) (pieces : List (List ℕ)) → length (starts_from at pieces) ≡ length pieces
length-starts_from at [] = refl
length-starts_from at (p ∷ pieces) = ap suc (length-starts_from (at + length p) pieces)

-- ---- the last text

abbrev pub last_of : {X : Type 0} → List X → Option X
last_of [] = None
last_of (x ∷ []) = Some x
last_of (x ∷ y ∷ ys) = last_of (y ∷ ys)

pub last_is : {X : Type 0} (xs : List X) → slice_get xs (length xs - 1) ≡ last_of xs
last_is [] = refl
last_is (x ∷ []) = refl
last_is (x ∷ y ∷ ys) = ap (slice_get (x ∷ y ∷ ys)) (let z : length (x ∷ y ∷ ys) - 1 ≡ suc (length (y ∷ ys) - 1) =
    omega arith in z) ∙ last_is (y ∷ ys)
