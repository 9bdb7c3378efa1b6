-- Names with their ids, sorted.
use Rattle.std.specs.Prelude.{bytes_eq}
use Rattle.std.proofs.Common.{◌≡◌, ℕ, suc, not, ◌||◌, ◌+◌, ◌-◌, ◌<◌, ◌≤◌, arith, get_or, drop, true, false, cond, List, [], ◌∷◌, ◌++◌, length, map, refl, sym, ap, subst, ◌∙◌, inl, inr}
use Rattle.std.specs.Borrow.{Bor}
use Rattle.std.specs.List.{sum_by, range_with_len, zip, dedup, dedup_from}
use Rattle.std.specs.List.Sorted.{IsPermutation, IsSorted}
use Rattle.std.specs.Ordering.{is_ge}
use Rattle.std.proofs.lemmas.Bool.{true≢false, cases_Bool, and_parts, not-true}
use Rattle.std.proofs.lemmas.List.{drop_more, length-drop}
use Rattle.std.proofs.lemmas.List.Sorted.{sum_by-IsPermutation, IsPermutation-map}
use Rattle.std.proofs.lemmas.List.Sums.{sum_by-cons}
use Rattle.std.specs.Cmp.Lexicographic.{bytes_decides}
use Rattle.cs_tree.specs.Cover.{is_among}
use Rattle.cs_tree.specs.Folders.{are_distinct}
use Rattle.cs_tree.specs.NameOrder.{bytes_cmp}
use Rattle.cs_tree.specs.NamesAscending.{are_ascending}
use Rattle.cs_tree.proofs.SortLemmas.{sorted_once, same_key, by_key}
use Rattle.cs_tree.specs.PathParts.{texts}
use Rattle.cs_index.specs.Order.{NameWithId, name_in, id_in, with_ids, IsOrder}
use Rattle.cs_index.specs.BorrowedNames.{borrowed_names}
use Rattle.cs_index.proofs.decoding.StringScan.{falls, climbs}

abbrev pub Borrowed : Type 0
Borrowed = Bor (List ℕ) × ℕ

abbrev pub name_borrowed : Borrowed → List ℕ
name_borrowed n = n.0.now

-- ---- names with ids

abbrev with_from : ℕ → List (List ℕ) → List NameWithId
with_from id names = zip names (range_with_len id (length names))

pushed_from : (id : ℕ) (names : List (List ℕ)) (name : List ℕ) → with_from id (names ++ name ∷ []) ≡ with_from id names
    ++ (name, id + length names) ∷ []
pushed_from id [] name = ap (λ n. (name, n) ∷ []) (let z : id ≡ id + 0 = omega arith in z)
pushed_from id (x ∷ names) name =
    ap (λ ns. (x, id) ∷ ns) (pushed_from (id + 1) names name)
    ∙ ap (λ n. (x, id) ∷ with_from (id + 1) names ++ (name, n) ∷ [])
    (let z : id + 1 + length names ≡ id + suc (length names) = omega arith in z)

pub with_ids-push : (names : List (List ℕ)) (name : List ℕ) → with_ids (names ++ name ∷ []) ≡ with_ids names ++ (name, length names) ∷ []
with_ids-push names name = pushed_from 0 names name ∙ ap (λ n. with_ids names ++ (name, n) ∷ [])
    (let z : 0 + length names ≡ length names = omega arith in z)

names_from : (id : ℕ) (names : List (List ℕ)) → map name_in (with_from id names) ≡ names
names_from id [] = refl
names_from id (x ∷ names) = ap (λ ns. x ∷ ns) (names_from (id + 1) names)

pub names_with_ids : (names : List (List ℕ)) → map name_in (with_ids names) ≡ names
names_with_ids names = names_from 0 names

pub names_borrowed : (ns : List Borrowed) → map name_in (borrowed_names ns) ≡ map name_borrowed ns
names_borrowed [] = refl
names_borrowed (n ∷ ns) = ap (λ xs. name_borrowed n ∷ xs) (names_borrowed ns)

-- ---- adjacent names

two_at : (ns : List Borrowed) (at : ℕ) (d : Borrowed) → 1 ≤ at → at < length ns →
    map name_borrowed (drop (at - 1) ns) ≡ name_borrowed (get_or ns (at - 1) d) ∷ name_borrowed (get_or ns at d)
    ∷ map name_borrowed (drop (at + 1) ns)
two_at ns at d some within =
    let e : at - 1 + 1 ≡ at = omega (arith, some) in
    ap (map name_borrowed) (drop_more ns (at - 1) d (omega (arith, some, within)))
    ∙ ap (λ k. name_borrowed (get_or ns (at - 1) d) ∷ map name_borrowed (drop k ns)) e
    ∙ ap (λ xs. name_borrowed (get_or ns (at - 1) d) ∷ map name_borrowed xs) (drop_more ns at d within)

pub pair_falls : (ns : List Borrowed) (at : ℕ) (d : Borrowed) → 1 ≤ at → at < length ns →
    is_ge (bytes_cmp (name_borrowed (get_or ns (at - 1) d)) (name_borrowed (get_or ns at d))) ≡ true →
    are_ascending (map name_borrowed (drop (at - 1) ns)) ≡ false
pair_falls ns at d some within h =
    ap are_ascending (two_at ns at d some within)
    ∙ falls (name_borrowed (get_or ns (at - 1) d)) (name_borrowed (get_or ns at d)) (map name_borrowed (drop (at + 1) ns)) h

pub pair_climbs : (ns : List Borrowed) (at : ℕ) (d : Borrowed) → 1 ≤ at → at < length ns →
    is_ge (bytes_cmp (name_borrowed (get_or ns (at - 1) d)) (name_borrowed (get_or ns at d))) ≡ false →
    are_ascending (map name_borrowed (drop (at - 1) ns)) ≡ are_ascending (map name_borrowed (drop (at + 1 - 1) ns))
pair_climbs ns at d some within h =
    let e : at ≡ at + 1 - 1 = omega arith in
    ap are_ascending (two_at ns at d some within)
    ∙ climbs (name_borrowed (get_or ns (at - 1) d)) (name_borrowed (get_or ns at d)) (map name_borrowed (drop (at + 1) ns)) h
    ∙ ap (λ xs. are_ascending (map name_borrowed xs)) (sym (drop_more ns at d within))
    ∙ ap (λ k. are_ascending (map name_borrowed (drop k ns))) e

short_ascends : (ns : List Borrowed) → length ns ≤ 1 → are_ascending (map name_borrowed ns) ≡ true
short_ascends [] bound = refl
short_ascends (n ∷ []) bound = refl
short_ascends (n ∷ m ∷ ns) bound = absurd (omega (arith, bound))

pub last_ascends : (ns : List Borrowed) (at : ℕ) → length ns ≤ at → are_ascending (map name_borrowed (drop (at - 1) ns)) ≡ true
last_ascends ns at end = short_ascends (drop (at - 1) ns) (omega (arith, end, length-drop (at - 1) ns))

-- ---- equal names

abbrev one : List ℕ → Borrowed → ℕ
one name n = cond (bytes_eq (name_borrowed n) name) 1 0

-- the number of occurrences of a name
abbrev many : List ℕ → List Borrowed → ℕ
many name ns = sum_by (one name) ns

many-more : (name : List ℕ) (n : Borrowed) (ns : List Borrowed) → many name (n ∷ ns) ≡ one name n + many name ns
many-more name n ns = sum_by-cons (one name) n ns

here : (name : List ℕ) (n : Borrowed) → bytes_eq (name_borrowed n) name ≡ true → one name n ≡ 1
here name n h = ap (λ b. cond b 1 0) h

away : (name : List ℕ) (n : Borrowed) → bytes_eq (name_borrowed n) name ≡ false → one name n ≡ 0
away name n h = ap (λ b. cond b 1 0) h

none_many : (name : List ℕ) (ns : List Borrowed) → is_among (map name_borrowed ns) name ≡ false → many name ns ≡ 0
none_many name [] h = refl
none_many name (n ∷ ns) h =
    elim (cases_Bool (bytes_eq (name_borrowed n) name)) [
      | inl tied ↦ absurd (true≢false (sym (ap (λ b. b || is_among (map name_borrowed ns) name) tied) ∙ h))
      | inr apart ↦
          let rest = none_many name ns (sym (ap (λ b. b || is_among (map name_borrowed ns) name) apart) ∙ h) in
          omega (arith, many-more name n ns, away name n apart, rest)
    ]

distinct_few : (name : List ℕ) (ns : List Borrowed) → are_distinct (map name_borrowed ns) ≡ true → many name ns ≤ 1
distinct_few name [] h = omega arith
distinct_few name (n ∷ ns) h =
    let parts = and_parts (not (is_among (map name_borrowed ns) (name_borrowed n))) _ h in
    let rest = distinct_few name ns parts.1 in
    elim (cases_Bool (bytes_eq (name_borrowed n) name)) [
      | inl tied ↦
          let absent : is_among (map name_borrowed ns) name ≡ false =
          ap (is_among (map name_borrowed ns)) (sym ((bytes_decides (name_borrowed n) name).0 tied)) ∙ not-true _ parts.0 in
          omega (arith, many-more name n ns, here name n tied, none_many name ns absent)
      | inr apart ↦ omega (arith, many-more name n ns, away name n apart, rest)
    ]

alone_from : (n : Borrowed) (ns : List Borrowed) → ((name : List ℕ) → many name (n ∷ ns) ≤ 1) →
    dedup_from (same_key name_borrowed) n ns ≡ n ∷ ns
alone_from n [] bound = refl
alone_from n (m ∷ ns) bound =
    elim (cases_Bool (same_key name_borrowed m n)) [
      | inl tied ↦
          let self : bytes_eq (name_borrowed n) (name_borrowed n) ≡ true = (bytes_decides (name_borrowed n) (name_borrowed n)).1 refl in
          absurd (omega (
            arith,
            bound (name_borrowed n),
            many-more (name_borrowed n) n (m ∷ ns),
            many-more (name_borrowed n) m ns,
            here (name_borrowed n) n self,
            here (name_borrowed n) m tied,
          ))
      | inr apart ↦
          ap (λ b. cond b (dedup_from (same_key name_borrowed) n ns) (n ∷ dedup_from (same_key name_borrowed) m ns)) apart
          ∙ ap (λ ms. n ∷ ms) (alone_from m ns (λ name. omega (arith, bound name, many-more name n (m ∷ ns))))
    ]

alone : (ns : List Borrowed) → ((name : List ℕ) → many name ns ≤ 1) → dedup (same_key name_borrowed) ns ≡ ns
alone [] bound = refl
alone (n ∷ ns) bound = alone_from n ns bound

-- sorted names that are not strictly ascending are not distinct
pub sorted_twins : (ns sorted : List Borrowed) → IsPermutation ns sorted → IsSorted (by_key name_borrowed) sorted →
    are_ascending (map name_borrowed sorted) ≡ false → are_distinct (map name_borrowed ns) ≡ false
sorted_twins ns sorted moved up falling =
    elim (cases_Bool (are_distinct (map name_borrowed ns))) [
      | inl distinct ↦
          let bound : (name : List ℕ) → many name sorted ≤ 1 =
          λ name. omega (arith, distinct_few name ns distinct, sum_by-IsPermutation (one name) ns sorted moved) in
          absurd (true≢false (sym (sorted_once name_borrowed sorted up)
          ∙ ap (λ ms. are_ascending (map name_borrowed ms)) (alone sorted bound) ∙ falling))
      | inr twice ↦ twice
    ]

-- ---- one more name

pub texts-push : (names : List (Bor (List ℕ))) (name : Bor (List ℕ)) → texts (names ++ name ∷ []) ≡ texts names ++ name.now ∷ []
texts-push [] name = refl
texts-push (x ∷ names) name = ap (λ ns. x.now ∷ ns) (texts-push names name)

pub texts_more : (names : List (Bor (List ℕ))) (name : Bor (List ℕ)) (rest : List (List ℕ)) → texts (names ++ name ∷ [])
    ++ rest ≡ texts names ++ name.now ∷ rest
texts_more [] name rest = refl
texts_more (x ∷ names) name rest = ap (λ ns. x.now ∷ ns) (texts_more names name rest)

pub borrowed-push : (ns : List Borrowed) (n : Borrowed) → borrowed_names (ns ++ n ∷ []) ≡ borrowed_names ns ++ (n.0.now, n.1) ∷ []
borrowed-push [] n = refl
borrowed-push (m ∷ ns) n = ap (λ ms. (m.0.now, m.1) ∷ ms) (borrowed-push ns n)

length-borrowed : (ns : List Borrowed) → length (map name_in (borrowed_names ns)) ≡ length ns
length-borrowed [] = refl
length-borrowed (n ∷ ns) = ap suc (length-borrowed ns)

pub as_many : (ns : List Borrowed) (names : List (List ℕ)) → borrowed_names ns ≡ with_ids names → length ns ≡ length names
as_many ns names h = sym (length-borrowed ns) ∙ ap (λ ms. length (map name_in ms)) h ∙ ap length (names_with_ids names)

pub one_left : (names : List (List ℕ)) (name : List ℕ) (rest : List (List ℕ)) → length names < length (names ++ name ∷ rest)
one_left [] name rest = omega arith
one_left (x ∷ names) name rest = omega (arith, one_left names name rest)

-- ---- the sorted ids

module _ (names : List (List ℕ)) (ns sorted : List Borrowed) (are : borrowed_names ns ≡ with_ids names)
    (moved : IsPermutation ns sorted) where
  names_are : map name_borrowed ns ≡ names
  names_are = sym (names_borrowed ns) ∙ ap (map name_in) are ∙ names_with_ids names

  pub in_order : are_ascending (map name_in (borrowed_names sorted)) ≡ true → IsOrder names (map id_in (borrowed_names sorted))
  in_order up = record {
    named = borrowed_names sorted;
    moved = subst (λ ms. IsPermutation ms (borrowed_names sorted)) are
        (IsPermutation-map (λ (n : Borrowed). (n.0.now, n.1)) ns sorted moved);
    ascend = up;
    have = refl;
  }

  pub repeated_name : IsSorted (by_key name_borrowed) sorted → are_ascending (map name_in (borrowed_names sorted))
      ≡ false → are_distinct names ≡ false
  repeated_name up falling = subst (λ ms. are_distinct ms ≡ false) names_are
      (sorted_twins ns sorted moved up (ap are_ascending (sym (names_borrowed sorted)) ∙ falling))
