-- Names in ascending order.
use Rattle.std.proofs.Common.{◌≡◌, ℕ, zero, suc, ◌+◌, ◌<◌, ◌≤◌, Bool, true, false, not, ◌||◌, eqb, List, [], ◌∷◌, length, map, get_or, refl, sym, ap, subst, ◌∙◌, inl, inr, Option, Some, None, arith, slice_get, option_map, slice_index, slice_index_or, slice_set, bytes_eq}
use Rattle.cs_merge.proofs.Common.{true≢false, false_from_ne_true, and_parts, and_from, cases_Bool, cases_lt, eqb-true, eq-eqb, not-true, length-map, All-permutation, Contains-permutation, length_permutation, slice_get_within, slice_get-get_or, same_Some, bytes_decides, All, Contains, range_with_len, zip, is_among, are_distinct, are_ascending, has, AreDistinct, SortedNames, id_of_rank, id_in_order, sorted_names, names_in_order, AreIndexNames, AreSortedNames, NewIds, AreByRank, AreNamesSoFar, AreMergedNames, AreScattered, IsOfEither, new, kept, IsMapped, AreDistinctIds, or-true, none-some}
use Rattle.cs_index.specs.Order.{NameWithId, id_in as id_of, name_in, with_ids, IsOrder}
use Rattle.cs_merge.proofs.IdMapLemmas.{ascends_at, never_below}
use Rattle.std.proofs.lemmas.Option.{slice_get-map}

-- ---- distinct names

position_among : (names : List (List ℕ)) (name : List ℕ) → is_among names name ≡ true →
    (position : ℕ) × (slice_get names position ≡ Some name)
position_among [] name h = absurd (true≢false (sym h))
position_among (one ∷ names) name h =
    elim (cases_Bool (bytes_eq one name)) [
      | inl here ↦ (0, ap Some ((bytes_decides one name).0 here))
      | inr apart ↦
          let rest = position_among names name (sym (ap (λ b. b || is_among names name) apart) ∙ h) in
          (suc rest.0, rest.1)
    ]

among_at_position : (names : List (List ℕ)) (position : ℕ) (name : List ℕ) → slice_get names position ≡ Some name →
    is_among names name ≡ true
among_at_position [] position name there = cc
among_at_position (one ∷ names) zero name there =
    ap (λ b. b || is_among names name) ((bytes_decides one name).1 (same_Some one name there))
among_at_position (one ∷ names) (suc position) name there =
    ap (λ b. bytes_eq one name || b) (among_at_position names position name there) ∙ or-true (bytes_eq one name)

-- each name has one position
abbrev pub AreDistinctNames : List (List ℕ) → Type 0
AreDistinctNames names = (position other : ℕ) (name : List ℕ) → slice_get names position ≡ Some name →
    slice_get names other ≡ Some name → position ≡ other

pub once_rest : (one : List ℕ) (names : List (List ℕ)) → AreDistinctNames (one ∷ names) → AreDistinctNames names
once_rest one names once position other name here there = let e = once (suc position) (suc other) name here there in omega (arith, e)

pub distinct_once : (names : List (List ℕ)) → are_distinct names ≡ true → AreDistinctNames names
distinct_once [] h position other name here there = cc
distinct_once (one ∷ names) h zero zero name here there = refl
distinct_once (one ∷ names) h zero (suc other) name here there =
    absurd (true≢false (sym (among_at_position names other one (there ∙ sym here))
    ∙ not-true (is_among names one) (and_parts (not (is_among names one)) (are_distinct names) h).0))
distinct_once (one ∷ names) h (suc position) zero name here there =
    absurd (true≢false (sym (among_at_position names position one (here ∙ sym there))
    ∙ not-true (is_among names one) (and_parts (not (is_among names one)) (are_distinct names) h).0))
distinct_once (one ∷ names) h (suc position) (suc other) name here there =
    ap suc (distinct_once names (and_parts (not (is_among names one)) (are_distinct names) h).1 position other name here there)

once_distinct : (names : List (List ℕ)) → AreDistinctNames names → are_distinct names ≡ true
once_distinct [] once = refl
once_distinct (one ∷ names) once =
    and_from (not (is_among names one)) (are_distinct names)
    (ap not (false_from_ne_true (is_among names one) (λ twice. let at = position_among names one twice in let e =
    once 0 (suc at.0) one refl at.1 in omega (arith, e))))
    (once_distinct names (once_rest one names once))

-- ascending names are distinct
pub ascending_once : (names : List (List ℕ)) → are_ascending names ≡ true → AreDistinctNames names
ascending_once names up position other name here there =
    elim (cases_lt position other) [
      | inl below ↦ absurd (never_below name (ascends_at names position other name name up below here there))
      | inr from ↦
          elim (cases_lt other position) [
            | inl above ↦ absurd (never_below name (ascends_at names other position name name up above there here))
            | inr to ↦ omega (arith, from, to)
          ]
    ]

-- ---- sorted names with their ids

module _ (names : List (List ℕ)) where
  abbrev Stands : NameWithId → Type 0
  Stands n = slice_get names n.1 ≡ Some n.0

  abbrev name_of : ℕ → List ℕ
  name_of id = slice_index_or names id []

  name_is : (id : ℕ) (name : List ℕ) → slice_get names id ≡ Some name → name_of id ≡ name
  name_is id name there = same_Some (name_of id) name (sym (slice_get-get_or names id [] (slice_get_within names id name there)) ∙ there)

  rest_stands : (n : NameWithId) (ns : List NameWithId) → All Stands (n ∷ ns) → All Stands ns
  rest_stands n ns all k d h = all (suc k) d (omega (arith, h))

  names_of_ids : (ns : List NameWithId) → All Stands ns → map name_of (map id_of ns) ≡ map name_in ns
  names_of_ids [] all = refl
  names_of_ids (n ∷ ns) all =
      λ i. name_is n.1 n.0 (all 0 n (omega arith)) i ∷ names_of_ids ns (rest_stands n ns all) i

  stands_at : (ns : List NameWithId) (position id : ℕ) → All Stands ns → slice_get (map id_of ns) position ≡ Some id →
      Some (name_of id) ≡ slice_get names id
  stands_at [] position id all there = cc
  stands_at (n ∷ ns) zero id all there =
      let here : slice_get names n.1 ≡ Some n.0 = all 0 n (omega arith) in
      let is : n.1 ≡ id = same_Some n.1 id there in
      subst (λ k. Some (name_of k) ≡ slice_get names k) is (sym (slice_get-get_or names n.1 [] (slice_get_within names n.1 n.0 here)))
  stands_at (n ∷ ns) (suc position) id all there = stands_at ns position id (rest_stands n ns all) there

with_at : (first : ℕ) (names : List (List ℕ)) (k : ℕ) (d : NameWithId) → k < length names →
    slice_index_or (zip names (range_with_len first (length names))) k d ≡ (slice_index_or names k [], first + k)
with_at first [] k d h = absurd (omega (arith, h))
with_at first (name ∷ names) zero d h = ap (λ n. (name, n)) (let z : first ≡ first + 0 = omega arith in z)
with_at first (name ∷ names) (suc k) d h =
    with_at (first + 1) names k d (omega (arith, h)) ∙ ap (λ n. (slice_index_or names k [], n))
    (let z : first + 1 + k ≡ first + suc k = omega arith in z)

with_long : (first : ℕ) (names : List (List ℕ)) → length (zip names (range_with_len first (length names))) ≡ length names
with_long first [] = refl
with_long first (name ∷ names) = ap suc (with_long (first + 1) names)

module _ (names : List (List ℕ)) (are : AreIndexNames names) where
  pub sorted_ascending : are_ascending names ≡ true → AreSortedNames (record { names = names; order = None })
  sorted_ascending up = record {
    are = are;
    ascend = up;
    long = refl;
    there = λ position id e. ap (slice_get names) (same_Some position id e);
    each = λ id h. (id, h, refl);
  }

  module _ (ids : List ℕ) (order : IsOrder names ids) where
    with_stands : All (Stands names) (with_ids names)
    with_stands k d h =
        let within : k < length names = omega (arith, h, with_long 0 names) in
        let at : slice_index_or (with_ids names) k d ≡ (slice_index_or names k [], k) = with_at 0 names k d within
        ∙ ap (λ n. (slice_index_or names k [], n)) (let z : 0 + k ≡ k = omega arith in z) in
        subst (Stands names) (sym at) (slice_get-get_or names k [] within)

    all_stand : All (Stands names) order.named
    all_stand = All-permutation (Stands names) (with_ids names) order.named order.moved with_stands

    named_long : length order.named ≡ length names
    named_long = length_permutation (with_ids names) order.named order.moved ∙ with_long 0 names

    ids_are : map id_of order.named ≡ ids
    ids_are = order.have

    each_mapped : (id : ℕ) → id < length names → (position : ℕ) × (position < length names) × (slice_get ids position ≡ Some id)
    each_mapped id h =
        let n : NameWithId = (slice_index_or names id [], id) in
        let at : slice_index_or (with_ids names) id n ≡ n = with_at 0 names id n h
        ∙ ap (λ m. (slice_index_or names id [], m)) (let z : 0 + id ≡ id = omega arith in z) in
        let first : Contains (with_ids names) n = (id, omega (arith, h, with_long 0 names), at) in
        let found = Contains-permutation (with_ids names) order.named n order.moved first in
        let within : found.0 < length order.named = found.1 in (
          found.0,
          omega (arith, within, named_long),
          ap (λ ns. slice_get ns found.0) (sym ids_are) ∙ slice_get-map id_of order.named found.0
              ∙ ap (option_map id_of) (slice_get-get_or order.named found.0 n within ∙ ap Some found.2),
        )

    pub sorted_order : AreSortedNames (record { names = names; order = Some ids })
    sorted_order = record {
      are = are;
      ascend = ap (λ ns. are_ascending (map (name_of names) ns)) (sym ids_are)
          ∙ ap are_ascending (names_of_ids names order.named all_stand) ∙ order.ascend;
      long = length-map ids (name_of names) ∙ ap length (sym ids_are) ∙ length-map order.named id_of ∙ named_long;
      there = λ position id e.
          slice_get-map (name_of names) ids position ∙ ap (option_map (name_of names)) e
          ∙ stands_at names order.named position id all_stand (ap (λ ns. slice_get ns position) ids_are ∙ e);
      each = each_mapped;
    }

-- ---- properties of sorted names

id_there : (order : Option (List ℕ)) (names : List (List ℕ)) (position : ℕ) (name : List ℕ) →
    slice_get (names_in_order order names) position ≡ Some name → (id : ℕ) × (id_in_order order position ≡ Some id)
id_there None names position name there = (position, refl)
id_there (Some ids) names position name there = by_item (slice_get ids position) refl
  where
    by_item : (o : Option ℕ) → slice_get ids position ≡ o → (id : ℕ) × (slice_get ids position ≡ Some id)
    by_item (Some id) e = (id, e)
    by_item None e = absurd (none-some name (sym (slice_get-map (λ id. slice_index_or names id []) ids position
        ∙ ap (option_map (λ id. slice_index_or names id [])) e) ∙ there))

module _ (ordered : SortedNames) (is : AreSortedNames ordered) where
  -- a sorted name is a name of the index
  pub own_name : (position : ℕ) (name : List ℕ) → slice_get (sorted_names ordered) position ≡ Some name →
      (id : ℕ) × (slice_get ordered.names id ≡ Some name)
  own_name position name there =
      let at = id_there ordered.order ordered.names position name there in
      (at.0, sym (is.there position at.0 at.1) ∙ there)

  own_once : AreDistinctNames ordered.names
  own_once id other name here there =
      let a = is.each id (slice_get_within ordered.names id name here) in
      let b = is.each other (slice_get_within ordered.names other name there) in
      let same : a.0 ≡ b.0 = ascending_once (sorted_names ordered) is.ascend a.0 b.0 name (is.there a.0 id a.2 ∙ here)
      (is.there b.0 other b.2 ∙ there) in
      same_Some id other (sym a.2 ∙ ap (id_of_rank ordered) same ∙ b.2)

  pub sorted_distinct : are_distinct ordered.names ≡ true
  sorted_distinct = once_distinct ordered.names own_once

-- ---- positions of numbers

pub has_at : (ns : List ℕ) (position : ℕ) → position < length ns → has ns (slice_index ns position) ≡ true
has_at [] position h = absurd (omega (arith, h))
has_at (n ∷ ns) zero h = ap (λ b. b || has ns n) (eq-eqb n n refl)
has_at (n ∷ ns) (suc position) h = ap (λ b. eqb n (slice_index ns position) || b)
    (has_at ns position (omega (arith, h))) ∙ or-true (eqb n (slice_index ns position))

position_of_number : (ns : List ℕ) (n : ℕ) → has ns n ≡ true → (position : ℕ) × (position < length ns) × (slice_index ns position ≡ n)
position_of_number [] n h = absurd (true≢false (sym h))
position_of_number (m ∷ ns) n h =
    elim (cases_Bool (eqb m n)) [
      | inl is ↦ (0, omega arith, eqb-true m n is)
      | inr differs ↦
          let at = position_of_number ns n (sym (ap (λ b. b || has ns n) differs) ∙ h) in
          let within = at.1 in
          (suc at.0, omega (arith, within), at.2)
    ]

distinct_by_position : (ns : List ℕ) → ((low high : ℕ) → low < high → high < length ns → slice_index ns low
    ≡ slice_index ns high → ⊥) → AreDistinct ns
distinct_by_position [] once = tt
distinct_by_position (n ∷ ns) once = (
  false_from_ne_true (has ns n) (λ h. let at = position_of_number ns n h in let within = at.1 in
      once 0 (suc at.0) (omega arith) (omega (arith, within)) (sym at.2)),
  distinct_by_position ns (λ low high h within e. once (suc low) (suc high) (omega (arith, h)) (omega (arith, within)) e),
)

apart_by_position : (ns : List ℕ) (low high : ℕ) → AreDistinct ns → low < high → high < length ns → slice_index ns low
    ≡ slice_index ns high → ⊥
apart_by_position [] low high once h within e = omega (arith, within)
apart_by_position (n ∷ ns) low zero once h within e = omega (arith, h)
apart_by_position (n ∷ ns) zero (suc high) once h within e =
    true≢false (sym (ap (has ns) e ∙ has_at ns high (omega (arith, within))) ∙ once.0)
apart_by_position (n ∷ ns) (suc low) (suc high) once h within e = apart_by_position ns low high once.1
    (omega (arith, h)) (omega (arith, within)) e

get_set_same : {X : Type 0} (xs : List X) (i : ℕ) (x : X) → i < length xs → slice_get (slice_set xs i x) i ≡ Some x
get_set_same [] i x h = absurd (omega (arith, h))
get_set_same (y ∷ xs) zero x h = refl
get_set_same (y ∷ xs) (suc i) x h = get_set_same xs i x (omega (arith, h))

get_set_other : {X : Type 0} (xs : List X) (i j : ℕ) (x : X) → (j ≡ i → ⊥) → slice_get (slice_set xs i x) j ≡ slice_get xs j
get_set_other [] zero j x apart = refl
get_set_other [] (suc i) j x apart = refl
get_set_other (y ∷ xs) zero zero x apart = absurd (apart refl)
get_set_other (y ∷ xs) zero (suc j) x apart = refl
get_set_other (y ∷ xs) (suc i) zero x apart = refl
get_set_other (y ∷ xs) (suc i) (suc j) x apart = get_set_other xs i j x (λ e. apart (ap suc e))

-- one more entry of the permutation is scattered
pub scattered_more : (ids : List ℕ) (ranks new_ids : NewIds) (position : ℕ) (rank : Option ℕ) → AreDistinct ids →
    position < length ids → slice_index ids position < length new_ids → slice_get ranks position ≡ Some rank →
    AreScattered ids ranks position new_ids → AreScattered ids ranks (position + 1)
    (slice_set new_ids (slice_index ids position) rank)
scattered_more ids ranks new_ids position rank once within below is put other h =
    elim (cases_lt other position) [
      | inl before ↦ get_set_other new_ids (slice_index ids position) (slice_index ids other) rank
          (λ e. apart_by_position ids other position once before within e) ∙ put other before
      | inr from ↦
          let same : position ≡ other = omega (arith, from, h) in
          subst (λ n. slice_get (slice_set new_ids (slice_index ids position) rank) (slice_index ids n) ≡ slice_get ranks n) same
          (get_set_same new_ids (slice_index ids position) rank below ∙ sym is)
    ]

module _ (names : List (List ℕ)) (ids : List ℕ) (is : AreSortedNames (record { names = names; order = Some ids })) where
  sorted : List (List ℕ)
  sorted = map (λ id. slice_index_or names id []) ids

  pub ids_long : length ids ≡ length names
  ids_long = sym (length-map ids (λ id. slice_index_or names id [])) ∙ is.long

  named_at : (position : ℕ) → position < length ids → slice_get names (slice_index ids position)
      ≡ Some (get_or (sorted_names (record { names = names; order = Some ids })) position [])
  named_at position h =
      sym (is.there position (slice_index ids position) (slice_get-get_or ids position 0 h))
      ∙ slice_get-get_or (sorted_names (record { names = names; order = Some ids })) position []
      (let l = is.long in omega (arith, h, ids_long, l))

  pub are_ordering : AreDistinctIds (length ids) ids
  are_ordering = record {
    below = λ id h.
        let at = position_of_number ids id h in
        let within = slice_get_within names (slice_index ids at.0)
        (get_or (sorted_names (record { names = names; order = Some ids })) at.0 []) (named_at at.0 at.1) in
        omega (arith, within, ids_long, at.2);
    once = distinct_by_position ids (λ low high h within e.
        let low_in : low < length ids = omega (arith, h, within) in
        let name : List ℕ = get_or (sorted_names (record { names = names; order = Some ids })) high [] in
        let same = ascending_once (sorted_names (record { names = names; order = Some ids })) is.ascend low high name
        (is.there low (slice_index ids low) (slice_get-get_or ids low 0 low_in) ∙ ap (slice_get names) e ∙ named_at high within)
        (is.there high (slice_index ids high) (slice_get-get_or ids high 0 within) ∙ named_at high within) in
        omega (arith, h, same));
  }

  pub scattered_by_rank : (ranks new_ids : NewIds) → length ranks ≡ length names → length new_ids ≡ length ranks →
      AreScattered ids ranks (length ids) new_ids → AreByRank (record { names = names; order = Some ids }) ranks new_ids
  scattered_by_rank ranks new_ids all long put = record {
    long = long;
    at = λ position id e h.
        let within : position < length ids = slice_get_within ids position id e in
        ap (slice_get new_ids) (same_Some id (slice_index ids position)
        (sym e ∙ slice_get-get_or ids position 0 within)) ∙ put position within;
  }

-- ---- from ranks to ids

module _ (is_dropped : List ℕ → Bool) (older newer : SortedNames) (older_is : AreSortedNames older)
    (newer_is : AreSortedNames newer) (names : List (List ℕ)) (ranks newer_ranks older_ids newer_ids : NewIds)
    (named : AreNamesSoFar is_dropped (sorted_names older) (sorted_names newer) names ranks newer_ranks) where
  long_of : (ordered : SortedNames) (some new_ids : NewIds) → AreSortedNames ordered →
      length some ≤ length (sorted_names ordered) → length (sorted_names ordered) ≤ length some → length new_ids
      ≡ length some → length new_ids ≡ length ordered.names
  long_of ordered some new_ids r bound all long = let l = r.long in omega (arith, bound, all, long, l)

  mapped_of : (drops : List ℕ → Bool) (ordered : SortedNames) (some new_ids : NewIds) → AreSortedNames ordered →
      length (sorted_names ordered) ≤ length some → AreByRank ordered some new_ids →
      ((position : ℕ) (name : List ℕ) (new : Option ℕ) → slice_get (sorted_names ordered) position ≡ Some name →
      slice_get some position ≡ Some new → IsMapped drops names name new) →
      (id : ℕ) (name : List ℕ) (new : Option ℕ) → slice_get ordered.names id ≡ Some name → slice_get new_ids id
      ≡ Some new → IsMapped drops names name new
  mapped_of drops ordered some new_ids r all by mapped id name found there is =
      let at = r.each id (slice_get_within ordered.names id name there) in
      let within : at.0 < length ordered.names = at.1 in
      let long = r.long in
      mapped at.0 name found (r.there at.0 id at.2 ∙ there) (sym (by.at at.0 id at.2 (omega (arith, within, long, all))) ∙ is)

  of_own : (name : List ℕ) → IsOfEither is_dropped (sorted_names older) (sorted_names newer) name →
      IsOfEither is_dropped older.names newer.names name
  of_own name (new position there) = let at = own_name newer newer_is position name there in new at.0 at.1
  of_own name (kept position there stays) = let at = own_name older older_is position name there in kept at.0 at.1 stays

  pub all_mapped : length (sorted_names older) ≤ length ranks → length (sorted_names newer) ≤ length newer_ranks →
      AreByRank older ranks older_ids → AreByRank newer newer_ranks newer_ids → AreMergedNames is_dropped older.names
      newer.names names older_ids newer_ids
  all_mapped all newer_all by newer_by = record {
    of_both = record {
      ascend = named.of_both.ascend;
      older_mapped = mapped_of is_dropped older ranks older_ids older_is all by named.of_both.older_mapped;
      newer_mapped = mapped_of (λ name. false) newer newer_ranks newer_ids newer_is newer_all newer_by named.of_both.newer_mapped;
      each_from = λ position name there. of_own name (named.of_both.each_from position name there);
    };
    older_long = long_of older ranks older_ids older_is named.older_within all by.long;
    newer_long = long_of newer newer_ranks newer_ids newer_is named.newer_within newer_all newer_by.long;
  }
