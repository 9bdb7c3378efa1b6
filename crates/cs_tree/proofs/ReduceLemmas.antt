-- Sorted paths, and those that no other path covers.
use denote.Ref.{Bor}
use Rattle.cs_tree.specs.PathSet.{Paths}
use Rattle.cs_tree.specs.NameOrder.{bytes_cmp}
use Rattle.cs_tree.specs.NamesAscending.{are_ascending}
use Rattle.std.proofs.Common.{◌≡◌, ℕ, Bool, true, false, cond, ◌&&◌, ◌||◌, List, [], ◌∷◌, map, nat_eq, Some, refl, sym, ap, subst, ◌∙◌}
use Rattle.std.specs.Prelude.{T, is_some, filter}
use Rattle.std.specs.List.{list_any, dedup, AllByRecursion}
use Rattle.std.specs.List.Sorted.{IsPermutation, IsSorted, IsStrictlySortedBy}
use Rattle.std.specs.Ordering.{eq_by_cmp, is_lt, nat_cmp}
use Rattle.std.specs.Cmp.{both_ways as same_tests, IsEquivalence}
use Rattle.std.specs.Cmp.Lexicographic.{bytes_decides, pointwise, slice_cmp, nat_list_cmp_total, on_texts, on_texts_equal, texts_ties}
use Rattle.std.specs.declared.cmp.Ordering.TheVariants.{Less}
use Rattle.std.specs.FinMap as map'
use Rattle.std.specs.FinMap.{find, entries_sorted}
use Rattle.std.specs.FinMap.Entries.{below_all}
use Rattle.std.proofs.lemmas.Bool.{and_parts, and_from, or_left}
use Rattle.std.proofs.lemmas.List.Folds.{Any-from_list_any, list_any-from_Any}
use Rattle.std.proofs.lemmas.List.Sorted.{list_any-IsPermutation}
use Rattle.std.proofs.lemmas.List.Kept.{Any-dedup, Contains-from_dedup, IsStrictlySortedBy-dedup, IsStrictlySortedBy-filter}
use Rattle.cs_tree.specs.Cover.{is_alone, least}
use Rattle.cs_tree.specs.PathParts.{texts}
use Rattle.cs_tree.specs.PathSet as set
use Rattle.cs_tree.proofs.NameOrderLemmas.{less_from}
use Rattle.cs_tree.proofs.NameLemmas.{list_any-map}
use Rattle.cs_tree.proofs.PathSetLemmas.{tied_is, same_set, items_in_order, contains_retained, some_item, item_satisfies, some_member, member_satisfies}

-- ---- sets of paths as lists

pub found-marked : (q : List ℕ) (paths : List (List ℕ)) → is_some (find bytes_cmp q (set.unit_entries paths))
    ≡ list_any (eq_by_cmp bytes_cmp q) paths
found-marked q [] = refl
found-marked q (path ∷ paths) =
    elim (eq_by_cmp bytes_cmp q path) as (λ b. is_some (cond b (Some tt) (find bytes_cmp q (set.unit_entries paths)))
    ≡ (b || list_any (eq_by_cmp bytes_cmp q) paths)) [ true ↦ refl | false ↦ found-marked q paths ]

pub contains-from_list : (paths : List (List ℕ)) (q : List ℕ) → set.contains (set.from_list paths) q
    ≡ list_any (eq_by_cmp bytes_cmp q) paths
contains-from_list paths q = ap is_some (map'.get-from_entries nat_list_cmp_total (set.unit_entries paths) q) ∙ found-marked q paths

-- whether some path satisfies the test, by the list and by the set
pub any-from_list : (test : List ℕ → Bool) (ps : List (List ℕ)) → list_any test ps ≡ list_any test (set.items (set.from_list ps))
any-from_list test ps = same_tests _ _
    (λ h. let some = some_item test ps h in member_satisfies (set.from_list ps) test some.0 (contains-from_list ps some.0 ∙ some.1) some.2)
    (λ h. let some = some_member (set.from_list ps) test h in item_satisfies test some.path ps some.accepts
    (sym (contains-from_list ps some.path) ∙ some.member))

below-marked : (x : List ℕ) (ys : List (List ℕ)) → AllByRecursion (λ y. bytes_cmp x y ≡ Less) ys →
    below_all bytes_cmp x (set.unit_entries ys) ≡ true
below-marked x [] h = refl
below-marked x (y ∷ ys) h = ap (λ r. is_lt r && below_all bytes_cmp x (set.unit_entries ys)) h.0 ∙ below-marked x ys h.1

is_sorted-marked : (ys : List (List ℕ)) → IsStrictlySortedBy bytes_cmp ys → map'.is_sorted bytes_cmp (set.unit_entries ys) ≡ true
unfolding IsStrictlySortedBy
is_sorted-marked [] h = refl
is_sorted-marked (y ∷ ys) h = and_from (below_all bytes_cmp y (set.unit_entries ys)) _ (below-marked y ys h.0) (is_sorted-marked ys h.1)

-- the items of a sorted list's set are that list
pub items-from_list : (ys : List (List ℕ)) → IsStrictlySortedBy bytes_cmp ys → set.items (set.from_list ys) ≡ ys
items-from_list ys h = items_in_order ys (subst T (sym (is_sorted-marked ys h)) tt)

above_all : (p q : List ℕ) (ps : List (List ℕ)) → bytes_cmp p q ≡ Less → AllByRecursion (λ r. bytes_cmp q r ≡ Less) ps →
    AllByRecursion (λ r. bytes_cmp p r ≡ Less) ps
above_all p q [] h all = tt
above_all p q (r ∷ ps) h all = (nat_list_cmp_total.trans p q r h all.0, above_all p q ps h all.1)

-- if each path is less than the next one, each is less than all later ones
pub strictly_from : (ps : List (List ℕ)) → are_ascending ps ≡ true → IsStrictlySortedBy bytes_cmp ps
unfolding IsStrictlySortedBy
strictly_from [] up = tt
strictly_from (p ∷ []) up = (tt, tt)
strictly_from (p ∷ q ∷ ps) up =
    let both = and_parts (is_lt (bytes_cmp p q)) (are_ascending (q ∷ ps)) up in
    let rest : IsStrictlySortedBy bytes_cmp (q ∷ ps) = strictly_from (q ∷ ps) both.1 in
    let first : bytes_cmp p q ≡ Less = less_from (bytes_cmp p q) both.0 in
    ((first, above_all p q ps first rest.0), rest)

pub true_from_T : (b : Bool) → T b → b ≡ true
true_from_T true h = refl
true_from_T false h = absurd h

below-keys : (x : List ℕ) (es : List (List ℕ × Unit {0})) → below_all bytes_cmp x es ≡ true →
    AllByRecursion (λ y. bytes_cmp x y ≡ Less) (map (λ (e : List ℕ × Unit {0}). e.0) es)
below-keys x [] h = tt
below-keys x (e ∷ es) h = let parts = and_parts (is_lt (bytes_cmp x e.0)) (below_all bytes_cmp x es) h in
    (less_from (bytes_cmp x e.0) parts.0, below-keys x es parts.1)

sorted-keys : (es : List (List ℕ × Unit {0})) → map'.is_sorted bytes_cmp es ≡ true →
    IsStrictlySortedBy bytes_cmp (map (λ (e : List ℕ × Unit {0}). e.0) es)
unfolding IsStrictlySortedBy
sorted-keys [] h = tt
sorted-keys (e ∷ es) h = let parts = and_parts (below_all bytes_cmp e.0 es) (map'.is_sorted bytes_cmp es) h in
    (below-keys e.0 es parts.0, sorted-keys es parts.1)

pub sorted-items : (paths : Paths) → IsStrictlySortedBy bytes_cmp (set.items paths)
sorted-items paths = sorted-keys (map'.entries paths) (true_from_T _ (entries_sorted paths))

ascending_from : (ps : List (List ℕ)) → IsStrictlySortedBy bytes_cmp ps → are_ascending ps ≡ true
unfolding IsStrictlySortedBy
ascending_from [] h = refl
ascending_from (p ∷ []) h = refl
ascending_from (p ∷ q ∷ ps) h = and_from _ _ (ap is_lt h.0.0) (ascending_from (q ∷ ps) h.1)

-- the items of a set ascend
pub items_ascend : (paths : Paths) → are_ascending (set.items paths) ≡ true
items_ascend paths = ascending_from (set.items paths) (sorted-items paths)

list_any-filter : (q : List ℕ) (test : List ℕ → Bool) (paths : List (List ℕ)) →
    list_any (eq_by_cmp bytes_cmp q) (filter test paths) ≡ (list_any (eq_by_cmp bytes_cmp q) paths && test q)
list_any-filter q test [] = refl
list_any-filter q test (path ∷ paths) = step (list_any-filter q test paths) (eq_by_cmp bytes_cmp q path) (test path) refl refl
  where
    and_false : (b : Bool) → (b && false) ≡ false
    and_false true = refl
    and_false false = refl

    step : list_any (eq_by_cmp bytes_cmp q) (filter test paths) ≡ (list_any (eq_by_cmp bytes_cmp q) paths && test q) →
        (e t : Bool) → eq_by_cmp bytes_cmp q path ≡ e → test path ≡ t →
        list_any (eq_by_cmp bytes_cmp q) (cond t (path ∷ filter test paths) (filter test paths))
        ≡ ((e || list_any (eq_by_cmp bytes_cmp q) paths) && test q)
    step rest true true tied accepts = or_left (eq_by_cmp bytes_cmp q path) _ tied ∙ sym (ap test (tied_is q path tied) ∙ accepts)
    step rest true false tied fails =
        let fails_q : test q ≡ false = ap test (tied_is q path tied) ∙ fails in
        rest ∙ ap (λ b. list_any (eq_by_cmp bytes_cmp q) paths && b) fails_q
        ∙ and_false (list_any (eq_by_cmp bytes_cmp q) paths) ∙ sym fails_q
    step rest false true apart accepts = ap (λ b. b || list_any (eq_by_cmp bytes_cmp q) (filter test paths)) apart ∙ rest
    step rest false false apart fails = rest

-- the items that satisfy the test are those of the retained set
pub filter-items : (paths : Paths) (test : List ℕ → Bool) → filter test (set.items paths) ≡ set.items (set.retain paths test)
filter-items paths test =
    let strict = IsStrictlySortedBy-filter bytes_cmp test (set.items paths) (sorted-items paths) in
    sym (items-from_list (filter test (set.items paths)) strict)
    ∙ ap set.items (same_set (set.from_list (filter test (set.items paths))) (set.retain paths test) (λ q.
    contains-from_list (filter test (set.items paths)) q
    ∙ list_any-filter q test (set.items paths)
    ∙ ap (λ b. b && test q) (sym (map'.contains_key-keys paths q))
    ∙ sym (contains_retained paths test q)))

-- ---- sorted and distinct texts

abbrev Text : Type 0
Text = Bor (List ℕ)

list_any-dedup : {X : Type 0} {E : X → X → Bool} (e : IsEquivalence E) (test : X → Bool) →
    ((x y : X) → E x y ≡ true → test x ≡ test y) → (xs : List X) → list_any test (dedup E xs) ≡ list_any test xs
list_any-dedup {X} {E} e test like xs = same_tests _ _
    (λ h.
    let some = Any-from_list_any test (dedup E xs) h in
    let all = Contains-from_dedup E xs some.1 (some.0, some.2, some.3) in
    list_any-from_Any test xs (all.0, some.1, all.1, all.2, some.4))
    (λ h.
    let some = Any-from_list_any test xs h in
    let left = Any-dedup e xs some.1 (some.0, some.2, some.3) in
    list_any-from_Any test (dedup E xs) (left.0, left.1, left.2, left.3, sym (like some.1 left.1 left.4) ∙ some.4))

module _ {X : Type 0} (bytes : X → List ℕ) where
  below-map : (x : List ℕ) (ys : List X) → AllByRecursion (λ y. bytes_cmp x (bytes y) ≡ Less) ys →
      AllByRecursion (λ y. bytes_cmp x y ≡ Less) (map bytes ys)
  below-map x [] h = tt
  below-map x (y ∷ ys) h = (h.0, below-map x ys h.1)

  -- what ascends by its bytes
  pub strict-map : (xs : List X) → IsStrictlySortedBy (λ (x y : X). bytes_cmp (bytes x) (bytes y)) xs →
      IsStrictlySortedBy bytes_cmp (map bytes xs)
  unfolding IsStrictlySortedBy
  strict-map [] h = tt
  strict-map (x ∷ xs) h = (below-map (bytes x) xs h.0, strict-map xs h.1)

  pub strict-dedup : (xs ys : List X) → IsSorted (λ (x y : X). slice_cmp nat_cmp (bytes x) (bytes y)) xs →
      ys ≡ dedup (λ (x y : X). pointwise nat_eq (bytes x) (bytes y)) xs → IsStrictlySortedBy bytes_cmp (map bytes ys)
  strict-dedup xs ys rising left =
      subst (λ zs. IsStrictlySortedBy bytes_cmp (map bytes zs)) (sym left)
      (strict-map (dedup (λ (x y : X). pointwise nat_eq (bytes x) (bytes y)) xs)
      (IsStrictlySortedBy-dedup (on_texts bytes) (λ (x y : X). texts_ties (bytes x) (bytes y)) xs rising))

abbrev same_text : Text → Text → Bool
same_text x y = pointwise nat_eq x.now y.now

pub ordered_items : (lent sorted ordered : List Text) → IsPermutation lent sorted →
    IsSorted (λ (x y : Text). slice_cmp nat_cmp x.now y.now) sorted → ordered
    ≡ dedup (λ (x y : Text). pointwise nat_eq x.now y.now) sorted → texts ordered
    ≡ set.items (set.from_list (texts lent))
ordered_items lent sorted ordered moved rising left =
    let strict = strict-dedup (λ (x : Text). x.now) sorted (dedup same_text sorted) rising refl in
    ap texts left
    ∙ sym (items-from_list (texts (dedup same_text sorted)) strict)
    ∙ ap set.items (same_set (set.from_list (texts (dedup same_text sorted))) (set.from_list (texts lent)) (λ q.
    contains-from_list (texts (dedup same_text sorted)) q
    ∙ list_any-map (λ (text : Text). text.now) (eq_by_cmp bytes_cmp q) (dedup same_text sorted)
    ∙ list_any-dedup (on_texts_equal (λ (x : Text). x.now)) (λ (text : Text). eq_by_cmp bytes_cmp q text.now)
    (λ x y e. ap (eq_by_cmp bytes_cmp q) ((bytes_decides x.now y.now).0 e)) sorted
    ∙ sym (list_any-IsPermutation (λ (text : Text). eq_by_cmp bytes_cmp q text.now) lent sorted moved)
    ∙ sym (list_any-map (λ (text : Text). text.now) (eq_by_cmp bytes_cmp q) lent)
    ∙ sym (contains-from_list (texts lent) q)))

-- ---- the least paths

-- the least paths of a list are those of its set
pub filter-least : (paths : Paths) (items : List (List ℕ)) → items ≡ set.items paths → filter (is_alone items) items
    ≡ set.items (least paths)
filter-least paths items e = ap (λ xs. filter (is_alone xs) xs) e ∙ filter-items paths (is_alone (set.items paths))
