-- Names of entries with a slash after those of folders, and their order.
use Rattle.std.specs.Prelude.{bytes_eq}
use Rattle.std.specs.Path.{slash}
use Rattle.std.proofs.Common.{◌≡◌, ◌≢◌, refl, ℕ, Bool, true, false, not, ◌||◌, List, [], ◌∷◌, ◌++◌, length, sym, ap, subst, ◌∙◌, arith, inl, inr, eqb}
use Rattle.std.proofs.lemmas.List.{length-append, append-nil, append_cancel_right}
use Rattle.std.proofs.lemmas.Bool.{cases_Bool, true≢false, false_from_ne_true, and_parts, or_cases, not-true}
use Rattle.std.specs.Cmp.Lexicographic.{bytes_decides}
use Rattle.std.proofs.lemmas.Cmp.{nat_cmp_total, tied_itself}
use Rattle.std.proofs.lemmas.Map.Lookups.{exact_unsigned}
use Rattle.std.specs.List.{list_any}
use Rattle.std.specs.Ordering.{is_lt, nat_cmp, ordering_then}
use Rattle.std.specs.declared.cmp.Ordering.{Ordering}
use Rattle.std.specs.declared.cmp.Ordering.TheVariants.{Less, Equal, Greater}
use Rattle.cs_tree.specs.NameOrder.{bytes_cmp}
use Rattle.cs_tree.specs.NamesAscending.{are_ascending}
use Rattle.cs_tree.specs.Elements.{is_among, is_element}
use Rattle.cs_tree.proofs.NameOrderLemmas.{before_trans}
use Rattle.cs_listing.specs.FolderReads.{key_of}

pub same_eq : (text : List ℕ) → bytes_eq text text ≡ true
same_eq text = (bytes_decides text text).1 refl

pub apart_eq : (a b : List ℕ) → a ≢ b → bytes_eq a b ≡ false
apart_eq a b apart = false_from_ne_true _ (λ same. apart ((bytes_decides a b).0 same))

-- ---- slashes

abbrev has_slash : List ℕ → Bool
has_slash name = list_any (λ b. eqb b slash) name

slash_last : (name : List ℕ) → has_slash (name ++ slash ∷ []) ≡ true
slash_last [] = refl
slash_last (b ∷ name) = elim (eqb b slash) as (λ t. (t || has_slash (name ++ slash ∷ [])) ≡ true) [ true ↦ refl | false ↦ slash_last name ]

-- a name has no slash
pub no_slash : (name : List ℕ) → is_element name ≡ true → has_slash name ≡ false
no_slash name good = not-true _ (and_parts (not (has_slash name)) _ (and_parts (not (bytes_eq name [])) _ good).1).0

pub key_is_none : (name : List ℕ) → key_of true name ≢ name
key_is_none name same = absurd (omega (arith, ap length same, length-append name (slash ∷ [])))

pub keys_apart : (f g : Bool) (a b : List ℕ) → is_element a ≡ true → is_element b ≡ true → key_of f a ≡ key_of g b → (a ≡ b) × (f ≡ g)
keys_apart true true a b fine good same = (append_cancel_right a b (slash ∷ []) same, refl)
keys_apart false false a b fine good same = (same, refl)
keys_apart true false a b fine good same = absurd (true≢false (sym (slash_last a) ∙ ap has_slash same ∙ no_slash b good))
keys_apart false true a b fine good same = absurd (true≢false (sym (slash_last b) ∙ ap has_slash (sym same) ∙ no_slash a fine))

-- the name of a key that is one of a folder
pub folder_key : (f : Bool) (a b : List ℕ) → is_element a ≡ true → key_of f a ≡ key_of true b → a ≡ b
folder_key true a b fine same = append_cancel_right a b (slash ∷ []) same
folder_key false a b fine same = absurd (true≢false (sym (slash_last b) ∙ ap has_slash (sym same) ∙ no_slash a fine))

pub file_key : (name other : List ℕ) → is_element name ≡ true → name ≢ key_of true other
file_key name other good same = true≢false (sym (slash_last other) ∙ ap has_slash (sym same) ∙ no_slash name good)

-- ---- order

abbrev pub IsBefore : List ℕ → List ℕ → Type 0
IsBefore a b = is_lt (bytes_cmp a b) ≡ true

pub prefix_before : (prefix a b : List ℕ) → IsBefore a b → IsBefore (prefix ++ a) (prefix ++ b)
prefix_before [] a b before = before
prefix_before (n ∷ prefix) a b before =
    ap (λ o. is_lt (ordering_then o (bytes_cmp (prefix ++ a) (prefix ++ b)))) (tied_itself nat_cmp_total n) ∙ prefix_before prefix a b before

-- what follows a key in the paths at an entry and below it: nothing, or a slash and more
abbrev pub Follows : Bool → List ℕ → Type 0
Follows true rest = (more : List ℕ) × (rest ≡ slash ∷ more)
Follows false rest = rest ≡ []

abbrev end : Bool → List ℕ
end true = slash ∷ []
end false = []

key_ends : (f : Bool) (name : List ℕ) → key_of f name ≡ name ++ end f
key_ends true name = refl
key_ends false name = sym (append-nil name)

-- the first bytes decide, or are equal
first_less : (o : Ordering) (a b : ℕ) (x y z w : List ℕ) → nat_cmp a b ≡ o → (a ≡ b → IsBefore x y → IsBefore z w) →
    IsBefore (a ∷ x) (b ∷ y) → IsBefore (a ∷ z) (b ∷ w)
first_less Less a b x y z w is on before = ap (λ o. is_lt (ordering_then o (bytes_cmp z w))) is
first_less Equal a b x y z w is on before =
    ap (λ o. is_lt (ordering_then o (bytes_cmp z w))) is
    ∙ on (exact_unsigned a b is) (sym (ap (λ o. is_lt (ordering_then o (bytes_cmp x y))) is) ∙ before)
first_less Greater a b x y z w is on before =
    absurd (true≢false (sym before ∙ ap (λ o. is_lt (ordering_then o (bytes_cmp x y))) is))

slash_first : (b : ℕ) (name : List ℕ) → has_slash (b ∷ name) ≡ false → b ≢ slash
slash_first b name none is =
    absurd (true≢false (sym (subst (λ c. (eqb c slash || has_slash name) ≡ true) (sym is) refl) ∙ none))

rest_none : (b : ℕ) (name : List ℕ) → has_slash (b ∷ name) ≡ false → has_slash name ≡ false
rest_none b name none = elim (cases_Bool (eqb b slash)) [
  | inl is ↦ absurd (true≢false (sym (ap (λ t. t || has_slash name) is) ∙ none))
  | inr is ↦ sym (ap (λ t. t || has_slash name) is) ∙ none
]

ends_before : (f g : Bool) (a b : List ℕ) → has_slash a ≡ false → has_slash b ≡ false → IsBefore (a ++ end f) (b ++ end g) →
    (r s : List ℕ) → Follows f r → Follows g s → IsBefore (a ++ r) (b ++ s)
ends_before true true [] [] plain bare before r s follows goes = absurd (true≢false (sym before))
ends_before true false [] [] plain bare before r s follows goes = absurd (true≢false (sym before))
ends_before false true [] [] plain bare before r s follows goes = subst (λ t. IsBefore t s) (sym follows) (subst (IsBefore []) (sym goes.1) refl)
ends_before false false [] [] plain bare before r s follows goes = absurd (true≢false (sym before))
ends_before true g [] (b ∷ m) plain bare before r s follows goes =
    subst (λ t. IsBefore t (b ∷ (m ++ s))) (sym follows.1)
    (first_less (nat_cmp slash b) slash b [] (m ++ end g) follows.0 (m ++ s) refl (λ is. absurd (slash_first b m bare (sym is))) before)
ends_before false g [] (b ∷ m) plain bare before r s follows goes = subst (λ t. IsBefore t (b ∷ (m ++ s))) (sym follows) refl
ends_before f true (a ∷ n) [] plain bare before r s follows goes =
    subst (IsBefore (a ∷ (n ++ r))) (sym goes.1)
    (first_less (nat_cmp a slash) a slash (n ++ end f) [] (n ++ r) goes.0 refl (λ is. absurd (slash_first a n plain is)) before)
ends_before f false (a ∷ n) [] plain bare before r s follows goes = absurd (true≢false (sym before))
ends_before f g (a ∷ n) (b ∷ m) plain bare before r s follows goes =
    first_less (nat_cmp a b) a b (n ++ end f) (m ++ end g) (n ++ r) (m ++ s) refl
    (λ is rest. ends_before f g n m (rest_none a n plain) (rest_none b m bare) rest r s follows goes) before

-- paths are in the order of their keys
pub keys_before : (f g : Bool) (a b : List ℕ) → is_element a ≡ true → is_element b ≡ true → IsBefore (key_of f a) (key_of g b) →
    (r s : List ℕ) → Follows f r → Follows g s → IsBefore (a ++ r) (b ++ s)
keys_before f g a b fine good before = ends_before f g a b (no_slash a fine) (no_slash b good)
    (subst (IsBefore (a ++ end f)) (key_ends g b) (subst (λ k. IsBefore k (key_of g b)) (key_ends f a) before))

-- the first of ascending keys is before the others
pub first_before : (key other : List ℕ) (keys : List (List ℕ)) → are_ascending (key ∷ keys) ≡ true → is_among keys other ≡ true →
    IsBefore key other
first_before key other [] ascend among = cc
first_before key other (next ∷ keys) ascend among =
    let parts = and_parts (is_lt (bytes_cmp key next)) (are_ascending (next ∷ keys)) ascend in
    elim (or_cases (bytes_eq next other) (is_among keys other) among) [
      | inl is ↦ subst (IsBefore key) ((bytes_decides next other).0 is) parts.0
      | inr more ↦ before_trans key next other parts.0 (first_before next other keys parts.1 more)
    ]

pub rest_ascend : (key : List ℕ) (keys : List (List ℕ)) → are_ascending (key ∷ keys) ≡ true → are_ascending keys ≡ true
rest_ascend key [] ascend = refl
rest_ascend key (next ∷ keys) ascend = (and_parts (is_lt (bytes_cmp key next)) (are_ascending (next ∷ keys)) ascend).1
