-- Sorted names are distinct, so that a folder may list them.
use Rattle.std.specs.Prelude.{bytes_eq}
use Rattle.std.proofs.Common.{◌≡◌, ℕ, Bool, true, false, not, ◌||◌, List, [], ◌∷◌, refl, sym, ap, subst, ◌∙◌, inl, inr}
use Rattle.cs_tree.specs.NameOrder.{bytes_cmp}
use Rattle.cs_tree.specs.NamesAscending.{are_ascending}
use Rattle.std.proofs.lemmas.Bool.{true≢false, false_from_ne_true, and_parts, and_from, or_cases, or_left, or_right}
use Rattle.std.specs.Cmp.Lexicographic.{bytes_decides, nat_list_cmp_total}
use Rattle.std.specs.List.{list_all}
use Rattle.std.specs.Ordering.{is_lt}
use Rattle.std.specs.Cmp.{tied_itself}
use Rattle.cs_tree.specs.Cover.{is_among}
use Rattle.cs_tree.specs.Folders.{is_element, are_distinct, are_elements}
use Rattle.cs_tree.proofs.NameOrderLemmas.{before_trans}

apart : (a b : List ℕ) → is_lt (bytes_cmp a b) ≡ true → bytes_eq b a ≡ false
apart a b h = false_from_ne_true _ (λ tied.
    true≢false (sym (subst (λ x. is_lt (bytes_cmp a x) ≡ true) ((bytes_decides b a).0 tied) h)
    ∙ ap is_lt (tied_itself nat_list_cmp_total a)))

-- a name less than the first of some ascending names is none of them
none_below : (a : List ℕ) (names : List (List ℕ)) (b : List ℕ) → is_lt (bytes_cmp a b) ≡ true →
    are_ascending (b ∷ names) ≡ true → is_among (b ∷ names) a ≡ false
none_below a [] b less up = ap (λ x. x || false) (apart a b less)
none_below a (c ∷ names) b less up =
    let parts = and_parts (is_lt (bytes_cmp b c)) (are_ascending (c ∷ names)) up in
    ap (λ x. x || is_among (c ∷ names) a) (apart a b less) ∙ none_below a names c (before_trans a b c less parts.0) parts.1

pub ascending_distinct : (names : List (List ℕ)) → are_ascending names ≡ true → are_distinct names ≡ true
ascending_distinct [] up = refl
ascending_distinct (a ∷ []) up = refl
ascending_distinct (a ∷ b ∷ names) up =
    let parts = and_parts (is_lt (bytes_cmp a b)) (are_ascending (b ∷ names)) up in
    and_from (not (is_among (b ∷ names) a)) _ (ap not (none_below a names b parts.0 parts.1)) (ascending_distinct (b ∷ names) parts.1)

-- a test that each name satisfies
satisfies_one : (test : List ℕ → Bool) (names : List (List ℕ)) (name : List ℕ) → list_all test names ≡ true →
    is_among names name ≡ true → test name ≡ true
satisfies_one test [] name all h = absurd (true≢false (sym h))
satisfies_one test (x ∷ names) name all h =
    let parts = and_parts (test x) (list_all test names) all in
    elim (or_cases (bytes_eq x name) _ h) [
      | inl here ↦ subst (λ n. test n ≡ true) ((bytes_decides x name).0 here) parts.0
      | inr there ↦ satisfies_one test names name parts.1 there
    ]

satisfies_all : (test : List ℕ → Bool) (names : List (List ℕ)) →
    ((name : List ℕ) → is_among names name ≡ true → test name ≡ true) → list_all test names ≡ true
satisfies_all test [] each = refl
satisfies_all test (x ∷ names) each =
    and_from (test x) _ (each x (or_left (bytes_eq x x) _ ((bytes_decides x x).1 refl)))
    (satisfies_all test names (λ name there. each name (or_right (bytes_eq x name) _ there)))

-- the same names, sorted
pub names_in_order : (old new : List (List ℕ)) → list_all is_element old ≡ true → are_ascending new ≡ true →
    ((name : List ℕ) → is_among new name ≡ is_among old name) → are_elements new ≡ true
names_in_order old new good up alike =
    and_from (list_all is_element new) _
    (satisfies_all is_element new (λ name there. satisfies_one is_element old name good (sym (alike name) ∙ there)))
    (ascending_distinct new up)
