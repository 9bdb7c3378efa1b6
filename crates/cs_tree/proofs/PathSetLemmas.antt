-- Finite sets and maps with lists of bytes as keys.
use Rattle.std.proofs.Common.{◌≡◌, ℕ, Bool, true, false, cond, ◌&&◌, ◌||◌, List, [], ◌∷◌, ◌++◌, map, refl, sym, ap, subst, ◌∙◌, inl, inr, Option, Some, None}
use Rattle.cs_tree.specs.PathSet.{Paths}
use Rattle.cs_tree.specs.NameOrder.{bytes_cmp}
use Rattle.std.specs.Prelude.{is_some, T}
use Rattle.std.proofs.lemmas.Bool.{true≢false, or_cases, or_left, or_right}
use Rattle.std.specs.Cmp.Lexicographic.{nat_list_cmp_total}
use Rattle.std.specs.declared.cmp.Ordering.TheVariants.{Equal}
use Rattle.std.specs.Option.{option_or}
use Rattle.std.specs.Ordering.{eq_by_cmp, is_eq}
use Rattle.std.specs.Cmp.{Equal-is, tied_itself}
use Rattle.std.specs.List.{list_any}
use Rattle.cs_tree.specs.PathSet as set
use Rattle.std.specs.FinMap as map'
use Rattle.std.specs.FinMap.{slice_cmp-IsAntisymmetric, nat_cmp-IsAntisymmetric, find}

-- names that compare equal are equal
pub alike : (p q : List ℕ) → bytes_cmp p q ≡ Equal → p ≡ q
alike = slice_cmp-IsAntisymmetric nat_cmp-IsAntisymmetric

pub tied_is : (p q : List ℕ) → eq_by_cmp bytes_cmp p q ≡ true → p ≡ q
tied_is p q h = alike p q ((Equal-is (bytes_cmp p q)).0 h)

pub tied_same : (p : List ℕ) → eq_by_cmp bytes_cmp p p ≡ true
tied_same p = ap is_eq (tied_itself nat_list_cmp_total p)

-- a member of the set that satisfies the test
pub record Passes (paths : Paths) (test : List ℕ → Bool) : Type 0 where
  pub path : List ℕ
  pub member : set.contains paths path ≡ true
  pub accepts : test path ≡ true

contains-items : (paths : Paths) (q : List ℕ) → set.contains paths q ≡ list_any (eq_by_cmp bytes_cmp q) (set.items paths)
contains-items paths q = map'.contains_key-keys paths q

pub some_item : (test : List ℕ → Bool) (ps : List (List ℕ)) → list_any test ps ≡ true →
    (p : List ℕ) × (list_any (eq_by_cmp bytes_cmp p) ps ≡ true) × (test p ≡ true)
some_item test [] h = absurd (true≢false (sym h))
some_item test (p ∷ ps) h =
    elim (or_cases (test p) (list_any test ps) h) [
      | inl here ↦ (p, or_left (eq_by_cmp bytes_cmp p p) _ (tied_same p), here)
      | inr there ↦ let found = some_item test ps there in (found.0, or_right (eq_by_cmp bytes_cmp found.0 p) _ found.1, found.2)
    ]

pub item_satisfies : (test : List ℕ → Bool) (q : List ℕ) (ps : List (List ℕ)) → test q ≡ true →
    list_any (eq_by_cmp bytes_cmp q) ps ≡ true → list_any test ps ≡ true
item_satisfies test q [] h member = absurd (true≢false (sym member))
item_satisfies test q (p ∷ ps) h member =
    elim (or_cases (eq_by_cmp bytes_cmp q p) (list_any (eq_by_cmp bytes_cmp q) ps) member) [
      | inl here ↦ or_left (test p) _ (subst (λ x. test x ≡ true) (tied_is q p here) h)
      | inr there ↦ or_right (test p) _ (item_satisfies test q ps h there)
    ]

pub some_member : (paths : Paths) (test : List ℕ → Bool) → list_any test (set.items paths) ≡ true → Passes paths test
some_member paths test h =
    let found = some_item test (set.items paths) h in
    record { path = found.0; member = contains-items paths found.0 ∙ found.1; accepts = found.2 }

pub member_satisfies : (paths : Paths) (test : List ℕ → Bool) (q : List ℕ) → set.contains paths q ≡ true → test q
    ≡ true → list_any test (set.items paths) ≡ true
member_satisfies paths test q member h = item_satisfies test q (set.items paths) h (sym (contains-items paths q) ∙ member)

pub contains_retained : (paths : Paths) (test : List ℕ → Bool) (q : List ℕ) → set.contains (set.retain paths test) q
    ≡ (set.contains paths q && test q)
contains_retained paths test q = ap is_some (map'.get-retain_keys paths test q (λ x e. ap test (sym (alike q x e))))
    ∙ kept_some (test q) (map'.get paths q)
  where
    kept_some : (b : Bool) (o : Option (Unit {0})) → is_some (cond b o None) ≡ (is_some o && b)
    kept_some true None = refl
    kept_some true (Some u) = refl
    kept_some false None = refl
    kept_some false (Some u) = refl

pub find-append : {X : Type 0} (q : List ℕ) (es fs : List (List ℕ × X)) → find bytes_cmp q (es ++ fs)
    ≡ option_or (find bytes_cmp q es) (find bytes_cmp q fs)
find-append q [] fs = refl
find-append q (e ∷ es) fs =
    elim (eq_by_cmp bytes_cmp q e.0) as (λ b. cond b (Some e.1) (find bytes_cmp q (es ++ fs))
    ≡ option_or (cond b (Some e.1) (find bytes_cmp q es)) (find bytes_cmp q fs))
    [ true ↦ refl | false ↦ find-append q es fs ]

pub contains-union : (a b : Paths) (q : List ℕ) → set.contains (set.union a b) q ≡ (set.contains a q || set.contains b q)
contains-union a b q =
    ap is_some (map'.get-from_entries nat_list_cmp_total _ q ∙ find-append q (map'.entries a) (map'.entries b))
    ∙ either (find bytes_cmp q (map'.entries a)) (find bytes_cmp q (map'.entries b))
    ∙ ap (λ o. is_some o || is_some (find bytes_cmp q (map'.entries b))) (sym (map'.get-entries a q))
    ∙ ap (λ o. set.contains a q || is_some o) (sym (map'.get-entries b q))
  where
    either : (x y : Option (Unit {0})) → is_some (option_or x y) ≡ (is_some x || is_some y)
    either None y = refl
    either (Some u) y = refl

pub same_set : (a b : Paths) → ((q : List ℕ) → set.contains a q ≡ set.contains b q) → a ≡ b
same_set a b h = map'.same_map nat_list_cmp_total alike a b (λ q. one_mark (map'.get a q) (map'.get b q) (h q))
  where
    one_mark : (x y : Option (Unit {0})) → is_some x ≡ is_some y → x ≡ y
    one_mark None None e = refl
    one_mark None (Some u) e = absurd (true≢false (sym e))
    one_mark (Some u) None e = absurd (true≢false e)
    one_mark (Some u) (Some v) e = refl

-- ---- sorted lists
pub entries_in_order : {X : Type 0} (es : List (List ℕ × X)) → T (map'.is_sorted bytes_cmp es) →
    map'.entries (map'.from_entries {R = bytes_cmp} es) ≡ es
entries_in_order es up =
    ap map'.entries (map'.same_map nat_list_cmp_total alike (map'.from_entries es) (map'.from_sorted es)
    (λ q. map'.get-from_entries nat_list_cmp_total es q ∙ sym (map'.get-from_sorted bytes_cmp es q up)))
    ∙ map'.entries-from_sorted bytes_cmp es up

pub items_in_order : (ps : List (List ℕ)) → T (map'.is_sorted bytes_cmp (set.unit_entries ps)) → set.items (set.from_list ps) ≡ ps
items_in_order ps up = ap (map (λ (e : List ℕ × Unit {0}). e.0)) (entries_in_order (set.unit_entries ps) up) ∙ firsts ps
  where
    firsts : (qs : List (List ℕ)) → map (λ (e : List ℕ × Unit {0}). e.0) (set.unit_entries qs) ≡ qs
    firsts [] = refl
    firsts (q ∷ qs) = ap (λ rest. q ∷ rest) (firsts qs)
