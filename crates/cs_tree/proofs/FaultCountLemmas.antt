-- A walk records at most one fault of a path for each given path that covers it. So it records at most one if no given
-- path covers another one.
use Rattle.std.proofs.Common.{◌≡◌, ℕ, zero, suc, ◌+◌, ◌<◌, ◌≤◌, Bool, true, false, not, ◌&&◌, cond, List, [], ◌∷◌, ◌++◌, length, length-append, map, drop, get_or, refl, sym, ap, subst, ◌∙◌, ◌⊎◌, inl, inr, arith, Option, Some, None}
use Rattle.std.proofs.lemmas.Bool.{true≢false, cases_Bool, both_ways, false_from_ne_true, true_from_ne_false, and_parts, and_from, or_cases, or_left, or_right, not-true, not_from_false}
use Rattle.std.proofs.lemmas.List.Elements.{filter-append}
use Rattle.std.proofs.lemmas.List.Sorted.{sum_by-IsPermutation, IsPermutation-map}
use Rattle.std.proofs.lemmas.List.Sums.{length-filter}
use Rattle.std.specs.Prelude.{IsPermutation, bytes_eq, filter}
use Rattle.std.specs.Path.{slash}
use Rattle.std.specs.Cmp.Lexicographic.{bytes_decides}
use Rattle.std.specs.List.{list_any, list_all, dedup, dedup_from}
use Rattle.cs_tree.specs.Covering.{Covers, itself, below, root}
use Rattle.cs_tree.specs.Cover.{covers, is_alone, is_among}
use Rattle.cs_tree.specs.Failures.{count_if, next_count}
use Rattle.cs_tree.specs.Folders.{child, is_element, are_distinct, are_elements}
use Rattle.cs_tree.specs.NamesAscending.{are_ascending}
use Rattle.cs_tree.specs.Walks.{FaultEntry, are_alone, failures_walked, faults_walked, is_failed_call}
use Rattle.cs_tree.specs.WalkSteps.{AreFaultsDistinct, AddsFewFaults, children, fault_seen, is_walked, fault_if, names_seen, times_covered, fault_count}
use Rattle.cs_tree.specs.declared.walking.Walked.{Walked}
use Rattle.cs_tree.specs.declared.walking.WalkFault.{WalkFault}
use Rattle.cs_tree.specs.declared.walking.PathStatus.{PathStatus}
use Rattle.cs_tree.proofs.DescentLemmas.{child_longer, under_child}
use Rattle.cs_tree.proofs.CoverLemmas.{covers_says, covers_from, covers_trans, covers_longer}
use Rattle.cs_tree.proofs.SortLemmas.{once_seen, same_key}
use Rattle.cs_tree.proofs.ListingLemmas.{ascending_distinct}
use Rattle.cs_tree.proofs.NameLemmas.{folder_covers_child}

-- ---- the number of items that satisfy a test

abbrev one_if : Bool → ℕ
one_if b = cond b 1 0

module _ {X : Type 0} (test : X → Bool) where
  count-cons : (x : X) (xs : List X) → length (filter test (x ∷ xs)) ≡ one_if (test x) + length (filter test xs)
  count-cons x xs = elim (test x) as (λ b. length (cond b (x ∷ filter test xs) (filter test xs))
      ≡ one_if b + length (filter test xs)) [ true ↦ omega arith | false ↦ omega arith ]

  count-append : (xs ys : List X) → length (filter test (xs ++ ys)) ≡ length (filter test xs) + length (filter test ys)
  count-append xs ys = ap length (filter-append test xs ys) ∙ length-append (filter test xs) (filter test ys)

  count_moved : (xs ys : List X) → IsPermutation xs ys → length (filter test ys) ≡ length (filter test xs)
  count_moved xs ys moved = length-filter test ys ∙ sum_by-IsPermutation (λ x. cond (test x) 1 0) xs ys moved ∙ sym (length-filter test xs)

among_first : (x : List ℕ) (xs : List (List ℕ)) → is_among (x ∷ xs) x ≡ true
among_first x xs = or_left (bytes_eq x x) _ ((bytes_decides x x).1 refl)

module _ (test : List ℕ → Bool) where
  none_satisfies : (xs : List (List ℕ)) → ((x : List ℕ) → is_among xs x ≡ true → test x ≡ false) → length (filter test xs) ≡ 0
  none_satisfies [] none = refl
  none_satisfies (x ∷ xs) none =
      omega (
        arith,
        count-cons test x xs,
        ap one_if (none x (among_first x xs)),
        none_satisfies xs (λ y there. none y (or_right (bytes_eq x y) _ there)),
      )

  one_satisfies : (xs : List (List ℕ)) → are_distinct xs ≡ true →
      ((x y : List ℕ) → is_among xs x ≡ true → is_among xs y ≡ true → test x ≡ true → test y ≡ true → x ≡ y) →
      length (filter test xs) ≤ 1
  one_satisfies [] apart same = omega arith
  one_satisfies (x ∷ xs) apart same =
      let parts = and_parts (not (is_among xs x)) (are_distinct xs) apart in
      elim (cases_Bool (test x)) [
        | inl here ↦
            let none = none_satisfies xs (λ y there. false_from_ne_true (test y) (λ accepts.
            both_ways (is_among xs x) (not-true _ parts.0)
            (subst (λ z. is_among xs z ≡ true) (sym (same x y (among_first x xs) (or_right (bytes_eq x y) _ there) here
            accepts)) there))) in
            omega (arith, count-cons test x xs, ap one_if here, none)
        | inr not_here ↦
            let rest = one_satisfies xs parts.1 (λ y z in_y in_z. same y z (or_right (bytes_eq x y) _ in_y)
            (or_right (bytes_eq x z) _ in_z)) in
            omega (arith, count-cons test x xs, ap one_if not_here, rest)
      ]

  all_satisfy : (xs : List (List ℕ)) (x : List ℕ) → list_all test xs ≡ true → is_among xs x ≡ true → test x ≡ true
  all_satisfy [] x all h = absurd (true≢false (sym h))
  all_satisfy (y ∷ xs) x all h =
      let parts = and_parts (test y) (list_all test xs) all in
      elim (or_cases (bytes_eq y x) _ h) [
        | inl here ↦ subst (λ z. test z ≡ true) ((bytes_decides y x).0 here) parts.0
        | inr there ↦ all_satisfy xs x parts.1 there
      ]

  any_satisfies : (xs : List (List ℕ)) (x : List ℕ) → is_among xs x ≡ true → test x ≡ true → list_any test xs ≡ true
  any_satisfies [] x h accepts = absurd (true≢false (sym h))
  any_satisfies (y ∷ xs) x h accepts =
      elim (or_cases (bytes_eq y x) _ h) [
        | inl here ↦ or_left (test y) _ (subst (λ z. test z ≡ true) (sym ((bytes_decides y x).0 here)) accepts)
        | inr there ↦ or_right (test y) _ (any_satisfies xs x there accepts)
      ]

-- ---- paths that do not cover each other

-- Two texts that both end before a slash of one text: they are equal, or one of them and a slash begin the other.
data Nested (p o : List ℕ) : Type 0 where
  same : p ≡ o → Nested p o
  inner : (more : List ℕ) → o ≡ p ++ slash ∷ more → Nested p o
  outer : (more : List ℕ) → p ≡ o ++ slash ∷ more → Nested p o

nested : (p o r s : List ℕ) → p ++ slash ∷ r ≡ o ++ slash ∷ s → (covers p o ≡ true) ⊎ (covers o p ≡ true)
nested p o r s e = from (split p o r s e)
  where
    longer : (b : ℕ) (p o : List ℕ) → Nested p o → Nested (b ∷ p) (b ∷ o)
    longer b p o (same e) = same (ap (λ xs. b ∷ xs) e)
    longer b p o (inner more e) = inner more (ap (λ xs. b ∷ xs) e)
    longer b p o (outer more e) = outer more (ap (λ xs. b ∷ xs) e)

    split : (p o r s : List ℕ) → p ++ slash ∷ r ≡ o ++ slash ∷ s → Nested p o
    split [] [] r s e = same refl
    split [] (c ∷ o) r s e = inner o (ap (λ b. b ∷ o) (sym (ap (λ xs. get_or xs 0 0) e)))
    split (b ∷ p) [] r s e = outer p (ap (λ b. b ∷ p) (ap (λ xs. get_or xs 0 0) e))
    split (b ∷ p) (c ∷ o) r s e = subst (λ d. Nested (b ∷ p) (d ∷ o)) (ap (λ xs. get_or xs 0 0) e)
        (longer b p o (split p o r s (ap (drop 1) e)))

    from : Nested p o → (covers p o ≡ true) ⊎ (covers o p ≡ true)
    from (same e) = inl (covers_from p o (itself e))
    from (inner more e) = inl (covers_from p o (below more e))
    from (outer more e) = inr (covers_from o p (below more e))

-- a text before a slash in a name below the root
under_root : (o r s : List ℕ) → slash ∷ r ≡ o ++ slash ∷ s → (covers (slash ∷ []) o ≡ true) ⊎ (covers o (slash ∷ []) ≡ true)
under_root [] r s e = inr refl
under_root (c ∷ o) r s e = inl (covers_from (slash ∷ []) (c ∷ o) (root o refl (ap (λ b. b ∷ o) (sym (ap (λ xs. get_or xs 0 0) e)))))

-- of two paths that cover one name, one covers the other
either_covers : (p o q : List ℕ) → Covers p q → Covers o q → (covers p o ≡ true) ⊎ (covers o p ≡ true)
either_covers p o q (itself e) h = inr (covers_from o p (subst (Covers o) (sym e) h))
either_covers p o q (below r e) (itself f) = inl (covers_from p o (below r (f ∙ e)))
either_covers p o q (below r e) (below s f) = nested p o r s (sym e ∙ f)
either_covers p o q (below r e) (root s f g) =
    elim (under_root p s r (sym g ∙ e)) [
      | inl under ↦ inr (subst (λ x. covers x p ≡ true) (sym f) under)
      | inr over ↦ inl (subst (λ x. covers p x ≡ true) (sym f) over)
    ]
either_covers p o q (root r e f) (itself g) = inl (covers_from p o (root r e (g ∙ f)))
either_covers p o q (root r e f) (below s g) =
    elim (under_root o r s (sym f ∙ g)) [
      | inl under ↦ inl (subst (λ x. covers x o ≡ true) (sym e) under)
      | inr over ↦ inr (subst (λ x. covers o x ≡ true) (sym e) over)
    ]
either_covers p o q (root r e f) (root s g h) = inl (covers_from p o (itself (e ∙ sym g)))

alone_same : (paths : List (List ℕ)) (p o : List ℕ) → is_alone paths o ≡ true → is_among paths p ≡ true → covers p o ≡ true → p ≡ o
alone_same paths p o alone member over =
    (bytes_decides p o).0 (true_from_ne_false (bytes_eq p o) (λ apart.
    both_ways _ (not-true _ alone) (any_satisfies (λ other. covers other o && not (bytes_eq other o)) paths p member
    (and_from (covers p o) _ over (not_from_false _ apart)))))

-- at most one of them covers a name
pub alone_once : (paths : List (List ℕ)) (q : List ℕ) → are_alone paths ≡ true → times_covered paths q ≤ 1
alone_once paths q h =
    let parts = and_parts (list_all (is_alone paths) paths) (are_distinct paths) h in
    one_satisfies (λ path. covers path q) paths parts.1 (λ p o in_p in_o over_p over_o.
    elim (either_covers p o q (covers_says p q over_p) (covers_says o q over_o)) [
      | inl over ↦ alone_same paths p o (all_satisfy (is_alone paths) paths o parts.0 in_o) in_p over
      | inr over ↦ sym (alone_same paths o p (all_satisfy (is_alone paths) paths p parts.0 in_p) in_o over)
    ])

-- ascending paths are distinct, so it is enough that no other path covers any of them
pub ascending_alone : (paths : List (List ℕ)) → are_ascending paths ≡ true → list_all (is_alone paths) paths ≡ true → are_alone paths ≡ true
ascending_alone paths up alone = and_from (list_all (is_alone paths) paths) _ alone (ascending_distinct paths up)

-- ---- the children of a folder

children_fewer : (path q : List ℕ) (names : List (List ℕ)) → times_covered (children path names) q
    ≤ length (filter (λ name. covers (child path name) q) names)
children_fewer path q [] = omega arith
children_fewer path q (name ∷ names) =
    elim (is_walked name) as (λ b. times_covered
    (map (child path) (cond b (name ∷ filter is_walked names) (filter is_walked names))) q
    ≤ length (filter (λ n. covers (child path n) q) (name ∷ names))) [
      | true ↦ omega (
        arith,
        count-cons (λ p. covers p q) (child path name) (children path names),
        count-cons (λ n. covers (child path n) q) name names,
        children_fewer path q names,
      )
      | false ↦ omega (arith, count-cons (λ n. covers (child path n) q) name names, children_fewer path q names)
    ]

-- A path covers itself and what its children cover, each name once.
children_once : (path q : List ℕ) (names : List (List ℕ)) → are_elements names ≡ true → one_if (bytes_eq path q)
    + times_covered (children path names) q ≤ one_if (covers path q)
children_once path q names good =
    let parts = and_parts (list_all is_element names) (are_distinct names) good in
    elim (cases_Bool (bytes_eq path q)) [
      | inl here ↦
          let is : path ≡ q = (bytes_decides path q).0 here in
          let over : covers path q ≡ true = covers_from path q (itself is) in
          let none = none_satisfies (λ name. covers (child path name) q) names
          (λ name member. beyond name is (all_satisfy is_element names name parts.0 member)) in
          omega (arith, ap one_if here, ap one_if over, none, children_fewer path q names)
      | inr apart ↦ elim (cases_Bool (covers path q)) [
        | inl over ↦
            let one = one_satisfies (λ name. covers (child path name) q) names parts.1
            (λ m n in_m in_n. same m n (all_satisfy is_element names m parts.0 in_m)
            (all_satisfy is_element names n parts.0 in_n)) in
            omega (arith, ap one_if apart, ap one_if over, one, children_fewer path q names)
        | inr beside ↦
            let none = none_satisfies (λ name. covers (child path name) q) names (λ name member. false_from_ne_true _ (λ over.
            both_ways (covers path q) beside (covers_trans path (child path name) q (folder_covers_child path name) over))) in
            omega (arith, ap one_if apart, ap one_if beside, none, children_fewer path q names)
      ]
    ]
  where
    some : (name : List ℕ) → is_element name ≡ true → 0 < length name
    some [] h = absurd (true≢false (sym h))
    some (b ∷ name) h = omega arith

    beyond : (name : List ℕ) → path ≡ q → is_element name ≡ true → covers (child path name) q ≡ false
    beyond name is good = false_from_ne_true _ (λ over.
        let long : length path < length (child path name) = child_longer path name (some name good) in
        let as_long : length path ≡ length q = ap length is in
        elim (covers_longer (child path name) q over) [
          | inl e ↦ let l : length (child path name) ≡ length q = ap length e in absurd (omega (arith, long, as_long, l))
          | inr less ↦ absurd (omega (arith, long, as_long, less))
        ])

    same : (m n : List ℕ) → is_element m ≡ true → is_element n ≡ true → covers (child path m) q ≡ true →
        covers (child path n) q ≡ true → m ≡ n
    same m n good_m good_n over_m over_n = heads m n _ _ (sym (under_child path m q good_m over_m) ∙ under_child path n q good_n over_n)
      where
        heads : (x y : List ℕ) (xs ys : List (List ℕ)) → x ∷ xs ≡ y ∷ ys → x ≡ y
        heads x y xs ys h = cc h

-- ---- a walk with its pending paths

-- The loop invariant: the number of new faults of a path plus the number of pending paths that cover it is at most 1,
-- and 0 if the start does not cover the path.
abbrev pub AddsFewSoFar : List ℕ → List (List ℕ) → Walked → Walked → Type 0
AddsFewSoFar start pending old new =
    (path : List ℕ) → fault_count (faults_walked new) path + times_covered pending path
    ≤ fault_count (faults_walked old) path + times_covered (start ∷ []) path

faults_few : (o : Option WalkFault) (path q : List ℕ) → fault_count (fault_if o path) q ≤ one_if (bytes_eq path q)
faults_few None path q = omega arith
faults_few (Some fault) path q = omega (arith, count-cons (λ (left : FaultEntry). bytes_eq left.0 q) (path, fault) [])

pub adds_on : (start path : List ℕ) (seen : PathStatus) (rest pending : List (List ℕ)) (old mid new : Walked) →
    are_elements (names_seen seen) ≡ true → faults_walked new ≡ faults_walked mid ++ fault_if (fault_seen seen) path →
    pending ≡ rest ++ children path (names_seen seen) → AddsFewSoFar start (rest ++ path ∷ []) old mid →
    AddsFewSoFar start pending old new
adds_on start path seen rest pending old mid new good faults waits so_far = λ q.
    omega (
      arith,
      so_far q,
      ap (λ fs. fault_count fs q) faults,
      count-append (λ (left : FaultEntry). bytes_eq left.0 q) (faults_walked mid) (fault_if (fault_seen seen) path),
      faults_few (fault_seen seen) path q,
      ap (λ ps. times_covered ps q) waits,
      count-append (λ p. covers p q) rest (children path (names_seen seen)),
      count-append (λ p. covers p q) rest (path ∷ []),
      count-cons (λ p. covers p q) path [],
      children_once path q (names_seen seen) good,
    )

-- one more path
pub adds_more : (paths : List (List ℕ)) (path : List ℕ) (old mid new : Walked) → AddsFewFaults paths old mid →
    AddsFewFaults (path ∷ []) mid new → AddsFewFaults (paths ++ path ∷ []) old new
adds_more paths path old mid new first second = λ q. omega (arith, first q, second q, count-append (λ p. covers p q) paths (path ∷ []))

-- ---- sorted

-- the count after k more failures
after : ℕ → ℕ → ℕ
after zero n = n
after (suc k) n = after k (next_count n)

failures_many : (faults : List FaultEntry) (n : ℕ) → failures_walked faults n
    ≡ after (length (filter (λ (left : FaultEntry). is_failed_call left.1) faults)) n
unfolding after
failures_many [] n = refl
failures_many (left ∷ faults) n =
    elim (is_failed_call left.1) as (λ b. failures_walked faults (count_if b n)
    ≡ after (length (cond b (left ∷ filter (λ (l : FaultEntry). is_failed_call l.1) faults)
    (filter (λ (l : FaultEntry). is_failed_call l.1) faults))) n) [
      | true ↦ failures_many faults (next_count n)
      | false ↦ failures_many faults n
    ]

pub failures_moved : (xs ys : List FaultEntry) (n : ℕ) → IsPermutation xs ys → failures_walked ys n ≡ failures_walked xs n
failures_moved xs ys n moved = failures_many ys n
    ∙ ap (λ k. after k n) (count_moved (λ (left : FaultEntry). is_failed_call left.1) xs ys moved)
    ∙ sym (failures_many xs n)

module _ {X : Type 0} (key : X → List ℕ) where
  apart_from : (k : X) (xs : List X) → ((q : List ℕ) → length (filter (λ x. bytes_eq (key x) q) (k ∷ xs)) ≤ 1) →
      dedup_from (same_key key) k xs ≡ k ∷ xs
  apart_from k [] once = refl
  apart_from k (x ∷ xs) once =
      let alike = λ (y : X). bytes_eq (key y) (key k) in
      elim (cases_Bool (same_key key x k)) [
        | inl tied ↦ absurd (omega (
          arith,
          once (key k),
          count-cons alike k (x ∷ xs),
          count-cons alike x xs,
          ap one_if tied,
          ap one_if ((bytes_decides (key k) (key k)).1 refl),
        ))
        | inr apart ↦
            ap (λ b. cond b (dedup_from (same_key key) k xs) (k ∷ dedup_from (same_key key) x xs)) apart
            ∙ ap (λ ys. k ∷ ys) (apart_from x xs (λ q. omega (arith, once q, count-cons (λ y. bytes_eq (key y) q) k (x ∷ xs))))
      ]

  apart_stays : (xs : List X) → ((q : List ℕ) → length (filter (λ x. bytes_eq (key x) q) xs) ≤ 1) → dedup (same_key key) xs ≡ xs
  apart_stays [] once = refl
  apart_stays (x ∷ xs) once = apart_from x xs once

-- sorted faults, one for each path: none is lost if no path has two
pub whole_once : {X : Type 0} (view : X → FaultEntry) (xs sorted : List X) → IsPermutation xs sorted →
    AreFaultsDistinct (map view xs) → IsPermutation (map view xs)
    (map view (dedup (λ x y. bytes_eq (view x).0 (view y).0) sorted))
whole_once view xs sorted moved once =
    let path = λ (left : FaultEntry). left.0 in
    let moved' = IsPermutation-map view xs sorted moved in
    subst (IsPermutation (map view xs))
    (sym (once_seen view (same_key path) sorted
    ∙ apart_stays path (map view sorted) (λ q. omega (
      arith,
      once q,
      count_moved (λ (left : FaultEntry). bytes_eq left.0 q) (map view xs) (map view sorted) moved',
    ))))
    moved'
