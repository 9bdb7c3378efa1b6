-- New ids of a list are distinct, so that they ascend once they are sorted.
use Rattle.std.proofs.Common.{◌≡◌, ℕ, suc, ◌+◌, ◌<◌, ◌≤◌, true, false, ◌||◌, eqb, List, [], ◌∷◌, ◌++◌, length, refl, sym, ap, subst, ◌∙◌, inl, inr, Option, Some, None, arith}
use Rattle.cs_merge.proofs.Common.{true≢false, cases_eq, eq-eqb, ne_eqb, or_cases, or_left, or_right, cons_option, has, set_of_numbers, Ascends, Above, ascends_head, ascends_set, ascends_tail, has-set_of_numbers, Written, AscendWithin, BeginsFrom, NewIds, new_id, new_ids_of, AreDisjoint, IsInjective, StayBelow, AreDistinctIds, IsMergedList, AreDistinct, length_permutation, or-true}
use Rattle.std.proofs.lemmas.List.Sorted.{IsNonDecreasingBy-from_sort, list_any-IsPermutation}
use Rattle.std.specs.List.Sorted.{IsNonDecreasing, IsPermutation, IsSorted}
use Rattle.std.specs.Ordering.{nat_cmp}
use Rattle.cs_trigram.proofs.SetLemmas.{ascends_same, distinct-length, length-distinct}
use Rattle.cs_merge.proofs.IdMergeLemmas.{has_both}
use Rattle.cs_merge.proofs.IdMapLemmas.{has_no_mapped, has_mapped, mapped_from}
use Rattle.std.proofs.Math.Bool.{or-false}

-- ---- new ids of both lists

none_before : (count next id : ℕ) (ids : List ℕ) → AscendWithin count next ids → id < next → has ids id ≡ false
none_before count next id [] up h = refl
none_before count next id (other ∷ ids) up h =
    let from : next ≤ other = up.0 in
    ap (λ b. b || has ids id) (ne_eqb other id (λ e. absurd (omega (arith, e, from, h))))
    ∙ none_before count (other + 1) id ids up.2 (omega (arith, from, h))

once_mapped : (new_ids : NewIds) (count next : ℕ) (ids : List ℕ) → IsInjective new_ids → AscendWithin count next ids →
    AreDistinct (new_ids_of new_ids ids)
once_mapped new_ids count next [] once up = tt
once_mapped new_ids count next (id ∷ ids) once up = by_new (new_id new_ids id) refl (once_mapped new_ids count (id + 1) ids once up.2)
  where
    by_new : (o : Option ℕ) → new_id new_ids id ≡ o → AreDistinct (new_ids_of new_ids ids) →
        AreDistinct (cons_option o (new_ids_of new_ids ids))
    by_new None e rest = rest
    by_new (Some new) e rest = (has_mapped new_ids ids id new once e ∙ none_before count (id + 1) id ids up.2 (omega arith), rest)

once_both : (ns more : List ℕ) → AreDistinct ns → AreDistinct more → ((n : ℕ) → has ns n ≡ true → has more n ≡ false) →
    AreDistinct (ns ++ more)
once_both [] more once again apart = again
once_both (m ∷ ns) more once again apart = (
  has_both ns more m ∙ ap (λ b. b || has more m) once.0 ∙ apart m (ap (λ b. b || has ns m) (eq-eqb m m refl)),
  once_both ns more once.1 again (λ n h. apart n (ap (λ b. eqb m n || b) h ∙ or-true (eqb m n))),
)

pub new_ids_of_both : (count some others : ℕ) (older newer : NewIds) (ids more : List ℕ) → IsInjective older →
    IsInjective newer → AreDisjoint older newer → StayBelow count older → StayBelow count newer →
    AscendWithin some 0 ids → AscendWithin others 0 more →
    AreDistinctIds count (new_ids_of older ids ++ new_ids_of newer more)
new_ids_of_both count some others older newer ids more once newer_once apart below newer_below up newer_up = record {
  below = λ id h. elim (or_cases (has (new_ids_of older ids) id) (has (new_ids_of newer more) id)
      (sym (has_both (new_ids_of older ids) (new_ids_of newer more) id) ∙ h)) [
        | inl here ↦ let from = mapped_from older ids id here in below from.0 id from.1
        | inr there ↦ let from = mapped_from newer more id there in newer_below from.0 id from.1
      ];
  once = once_both (new_ids_of older ids) (new_ids_of newer more) (once_mapped older some 0 ids once up)
      (once_mapped newer others 0 more newer_once newer_up)
      (λ n h. let from = mapped_from older ids n h in has_no_mapped newer more n (λ other e. apart from.0 other n from.1 e));
}

-- ---- sorted ids

-- an ascending set of ids below the number of names is a list
pub rise_of_set : (count next : ℕ) (ids : List ℕ) → BeginsFrom next ids → Ascends ids →
    ((id : ℕ) → has ids id ≡ true → id < count) → AscendWithin count next ids
rise_of_set count next [] from up below = tt
rise_of_set count next (id ∷ ids) from up below = (
  from,
  below id (or_left (eqb id id) (has ids id) (eq-eqb id id refl)),
  rise_of_set count (id + 1) ids (after ids (ascends_head id ids up)) (ascends_tail id ids up)
      (λ other h. below other (or_right (eqb id other) (has ids other) h)),
)
  where
    after : (others : List ℕ) → Above id others → BeginsFrom (id + 1) others
    after [] h = tt
    after (other ∷ others) h = omega (arith, h)

ascends_sorted : (ids : List ℕ) → IsNonDecreasing ids → AreDistinct ids → Ascends ids
ascends_sorted [] up once = tt
ascends_sorted (id ∷ []) up once = tt
ascends_sorted (id ∷ other ∷ ids) up once = (
  elim (cases_eq other id) [
    | inl same ↦ absurd (true≢false (sym (or_left (eqb other id) (has ids id) (eq-eqb other id same)) ∙ once.0))
    | inr apart ↦ let from = up 0 1 id (omega arith) (omega arith) in omega (arith, from, apart)
  ],
  ascends_sorted (other ∷ ids) (λ i j d h k. up (suc i) (suc j) d (omega (arith, h)) (omega (arith, k))) once.1,
)

-- the sorted ids of both lists
module _ (count : ℕ) (older newer start some all sorted : List ℕ) (are : AreDistinctIds count (older ++ newer))
    (empty : start ≡ []) (first : some ≡ start ++ older) (then : all ≡ some ++ newer) (moved : IsPermutation all sorted) where
  gathered : IsPermutation (older ++ newer) sorted
  gathered = subst (λ ids. IsPermutation ids sorted)
      (then ∙ ap (λ ids. ids ++ newer) (first ∙ ap (λ ids. ids ++ older) empty)) moved

  has_sorted : (id : ℕ) → has sorted id ≡ has (older ++ newer) id
  has_sorted id = sym (list_any-IsPermutation (λ n. eqb n id) (older ++ newer) sorted gathered)

  -- the ids are the same set when they are sorted, and as many
  once_sorted : AreDistinct sorted
  once_sorted =
      let sets : set_of_numbers (older ++ newer) ≡ set_of_numbers sorted = ascends_same (set_of_numbers (older ++ newer))
      (set_of_numbers sorted) (ascends_set (older ++ newer)) (ascends_set sorted)
      (λ id. has-set_of_numbers id (older ++ newer) ∙ sym (has_sorted id) ∙ sym (has-set_of_numbers id sorted)) in
      distinct-length sorted (length_permutation (older ++ newer) sorted gathered
      ∙ length-distinct (older ++ newer) are.once ∙ ap length sets)

  pub sorted_rise : IsSorted nat_cmp sorted → AscendWithin count 0 sorted
  sorted_rise up = rise_of_set count 0 sorted (begin sorted)
      (ascends_sorted sorted (IsNonDecreasingBy-from_sort (λ id. id) sorted up) once_sorted)
      (λ id h. are.below id (sym (has_sorted id) ∙ h))
    where
      begin : (ids : List ℕ) → BeginsFrom 0 ids
      begin [] = tt
      begin (id ∷ ids) = omega arith

  pub none_sorted : (older ≡ []) × (newer ≡ []) → sorted ≡ []
  none_sorted none = no_ids sorted (length_permutation (older ++ newer) sorted gathered
      ∙ ap length (λ i. none.0 i ++ none.1 i))
    where
      no_ids : (ids : List ℕ) → length ids ≡ 0 → ids ≡ []
      no_ids [] e = refl
      no_ids (id ∷ ids) e = cc

  pub given_sorted : (trigram : ℕ) (before now : Written) → IsMergedList trigram before now sorted [] [] [] →
      IsMergedList trigram before now older newer [] []
  given_sorted trigram before now given = record {
    given = given.given;
    paths = given.paths;
    names = given.names;
    lists = given.lists;
    sent = given.sent;
    each = λ id. given.each id ∙ or-false (has sorted id) ∙ has_sorted id ∙ has_both older newer id;
    older_rise = tt;
    newer_rise = tt;
  }
