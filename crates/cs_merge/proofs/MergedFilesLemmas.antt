-- Merged names with merged lists have the files of the merge.
use Rattle.std.proofs.Common.{◌≡◌, ℕ, zero, suc, ◌+◌, Bool, true, false, not, cond, List, [], ◌∷◌, get_or, refl, sym, ap, subst, ◌∙◌, ◌⊎◌, inl, inr, Option, Some, None, arith, slice_get, option_and_then}
use Rattle.cs_merge.proofs.Common.{true≢false, and_parts, cases_Bool, slice_get_within, slice_get-get_or, same_Some, find, is_sorted, nat_list_cmp_total, list_all, eq_by_cmp, is_covered, are_distinct, bytes_cmp, alike, tied_is, tied_same, entries_in_order, option_or, PostingList, encoding_of, Parts, files_read, lists_in, files_in, paths_in, set_at, entries_of, merge_files, merge_paths, merge_index, AreTested, NewIds, AreMappedLists, IsOfEither, new, kept, AreMergedNames, false_from_ne_true}
use Rattle.std.specs.FinMap as map'
use Rattle.cs_tree.specs.PathSet as set
use Rattle.cs_index.specs.Encoding.{encoding}
use Rattle.cs_index.specs.OpenedParts.{are_covered}
use Rattle.cs_merge.proofs.FileOrderLemmas.{sorted_up, up_named}
use Rattle.cs_merge.proofs.MergeLemmas.{get-merge_files}
use Rattle.cs_merge.proofs.SortedNamesLemmas.{AreDistinctNames, ascending_once, distinct_once, once_rest}
use Rattle.cs_index.proofs.encoding.FileMapEncoding.{true_T}

-- ---- the file at a name

find_at : (names : List (List ℕ)) (first position : ℕ) (name : List ℕ) (lists : List PostingList) →
    AreDistinctNames names → slice_get names position ≡ Some name → find bytes_cmp name (entries_of first names lists)
    ≡ Some (set_at (first + position) lists)
find_at [] first position name lists once there = cc
find_at (one ∷ names) first zero name lists once there =
    let same : one ≡ name = same_Some one name there in
    let at : first ≡ first + 0 = omega arith in
    ap (λ b. cond b (Some (set_at first lists)) (find bytes_cmp name (entries_of (first + 1) names lists)))
    (subst (λ n. eq_by_cmp bytes_cmp name n ≡ true) (sym same) (tied_same name))
    ∙ ap (λ n. Some (set_at n lists)) at
find_at (one ∷ names) first (suc position) name lists once there =
    let at : first + 1 + position ≡ first + suc position = omega arith in
    ap (λ b. cond b (Some (set_at first lists)) (find bytes_cmp name (entries_of (first + 1) names lists))) apart
    ∙ find_at names (first + 1) position name lists (once_rest one names once) there
    ∙ ap (λ n. Some (set_at n lists)) at
  where
    apart : eq_by_cmp bytes_cmp name one ≡ false
    apart = false_from_ne_true (eq_by_cmp bytes_cmp name one)
        (λ here. let e = once 0 (suc position) name (ap Some (sym (tied_is name one here))) there in omega (arith, e))

pub found_at : (names : List (List ℕ)) (position : ℕ) (name : List ℕ) (lists : List PostingList) →
    AreDistinctNames names → slice_get names position ≡ Some name → find bytes_cmp name (entries_of 0 names lists)
    ≡ Some (set_at position lists)
found_at names position name lists once there =
    let at : 0 + position ≡ position = omega arith in
    find_at names 0 position name lists once there ∙ ap (λ n. Some (set_at n lists)) at

pub find_nowhere : (names : List (List ℕ)) (first : ℕ) (name : List ℕ) (lists : List PostingList) →
    ((position : ℕ) → slice_get names position ≡ Some name → ⊥) → find bytes_cmp name (entries_of first names lists)
    ≡ None
find_nowhere [] first name lists none = refl
find_nowhere (one ∷ names) first name lists none =
    elim (cases_Bool (eq_by_cmp bytes_cmp name one)) [
      | inl here ↦ absurd (none 0 (ap Some (sym (tied_is name one here))))
      | inr apart ↦
          ap (λ b. cond b (Some (set_at first lists)) (find bytes_cmp name (entries_of (first + 1) names lists))) apart
          ∙ find_nowhere names (first + 1) name lists (λ position there. none (suc position) there)
    ]

pub some_position : (names : List (List ℕ)) (name : List ℕ) → ((position : ℕ) × (slice_get names position ≡ Some name))
    ⊎ ((position : ℕ) → slice_get names position ≡ Some name → ⊥)
some_position [] name = inr (λ position there. cc)
some_position (one ∷ names) name =
    elim (cases_Bool (eq_by_cmp bytes_cmp name one)) [
      | inl here ↦ inl (0, ap Some (sym (tied_is name one here)))
      | inr apart ↦
          elim (some_position names name) [
            | inl later ↦ inl (suc later.0, later.1)
            | inr none ↦ inr (λ position there. nowhere apart none position there)
          ]
    ]
  where
    nowhere : eq_by_cmp bytes_cmp name one ≡ false → ((position : ℕ) → slice_get names position ≡ Some name → ⊥) →
        (position : ℕ) → slice_get (one ∷ names) position ≡ Some name → ⊥
    nowhere apart none zero there =
        true≢false (sym (subst (λ n. eq_by_cmp bytes_cmp name n ≡ true) (sym (same_Some one name there)) (tied_same name)) ∙ apart)
    nowhere apart none (suc position) there = none position there

-- ---- the files of both

-- The merged names, the id maps and the merged lists.
pub record AreWritten (older newer : Parts) (names : List (List ℕ)) (older_ids newer_ids : NewIds) (given : List PostingList) : Type 0 where
  pub named : AreMergedNames (is_covered (paths_in newer)) older.names newer.names names older_ids newer_ids
  pub older_sets : AreMappedLists older_ids (lists_in older) given
  pub newer_sets : AreMappedLists newer_ids (lists_in newer) given

pub all_covered : (parts : Parts) → are_covered parts ≡ true → (id : ℕ) (name : List ℕ) → slice_get parts.names id
    ≡ Some name → is_covered (paths_in parts) name ≡ true
unfolding are_covered
all_covered parts h id name there = each parts.names id h there
  where
    each : (names : List (List ℕ)) (position : ℕ) → list_all (λ name. is_covered (paths_in parts) name) names ≡ true →
        slice_get names position ≡ Some name → is_covered (paths_in parts) name ≡ true
    each [] position all there = cc
    each (one ∷ names) zero all there =
        subst (λ n. is_covered (paths_in parts) n ≡ true) (same_Some one name there)
        (and_parts (is_covered (paths_in parts) one) (list_all (λ name. is_covered (paths_in parts) name) names)
        all).0
    each (one ∷ names) (suc position) all there =
        each names position (and_parts (is_covered (paths_in parts) one)
        (list_all (λ name. is_covered (paths_in parts) name) names) all).1 there

module _ (older newer : Parts) (names : List (List ℕ)) (older_ids newer_ids : NewIds) (given : List PostingList)
    (written : AreWritten older newer names older_ids newer_ids given) (tested : AreTested older newer) where
  onces : AreDistinctNames older.names × AreDistinctNames newer.names
  onces =
      let both = and_parts (are_distinct older.names) (are_distinct newer.names) tested.distinct in
      (distinct_once older.names both.0, distinct_once newer.names both.1)

  named_once : AreDistinctNames names
  named_once = ascending_once names written.named.of_both.ascend

  -- what the merge has at a name
  abbrev both_have : List ℕ → Option (List ℕ)
  both_have name = option_or (find bytes_cmp name (files_read newer))
      (cond (not (is_covered (paths_in newer) name)) (find bytes_cmp name (files_read older)) None)

  -- if the newer index lacks the name
  old_has : (name : List ℕ) (is_dropped : Bool) → ((position : ℕ) → slice_get newer.names position ≡ Some name → ⊥) →
      is_covered (paths_in newer) name ≡ is_dropped → both_have name
      ≡ cond (not is_dropped) (find bytes_cmp name (files_read older)) None
  old_has name is_dropped none e = λ i. option_or (find_nowhere newer.names 0 name (lists_in newer) none i)
      (cond (not (e i)) (find bytes_cmp name (files_read older)) None)

  found_newer : (id : ℕ) (name : List ℕ) → slice_get newer.names id ≡ Some name →
      find bytes_cmp name (entries_of 0 names given) ≡ both_have name
  found_newer id name there = by_new (get_or newer_ids id None)
      (slice_get-get_or newer_ids id None (let within = slice_get_within newer.names id name there in let all =
      written.named.newer_long in omega (arith, within, all)))
    where
      by_new : (o : Option ℕ) → slice_get newer_ids id ≡ Some o → find bytes_cmp name (entries_of 0 names given) ≡ both_have name
      by_new None is = absurd (true≢false (sym (written.named.of_both.newer_mapped id name None there is)))
      by_new (Some found) is =
          let mapped = written.named.of_both.newer_mapped id name (Some found) there is in
          found_at names found name given named_once mapped.1
          ∙ ap Some (written.newer_sets id found (ap (option_and_then (λ (o : Option ℕ). o)) is))
          ∙ sym (ap (λ o. option_or o (cond (not (is_covered (paths_in newer) name))
          (find bytes_cmp name (files_read older)) None))
          (found_at newer.names id name (lists_in newer) onces.1 there))

  found_older : (id : ℕ) (name : List ℕ) → ((position : ℕ) → slice_get newer.names position ≡ Some name → ⊥) →
      is_covered (paths_in newer) name ≡ false → slice_get older.names id ≡ Some name →
      find bytes_cmp name (entries_of 0 names given) ≡ both_have name
  found_older id name none stays there = by_new (get_or older_ids id None)
      (slice_get-get_or older_ids id None (let within = slice_get_within older.names id name there in let all =
      written.named.older_long in omega (arith, within, all)))
    where
      by_new : (o : Option ℕ) → slice_get older_ids id ≡ Some o → find bytes_cmp name (entries_of 0 names given) ≡ both_have name
      by_new None is = absurd (true≢false (sym (written.named.of_both.older_mapped id name None there is) ∙ stays))
      by_new (Some found) is =
          let mapped = written.named.of_both.older_mapped id name (Some found) there is in
          found_at names found name given named_once mapped.1
          ∙ ap Some (written.older_sets id found (ap (option_and_then (λ (o : Option ℕ). o)) is))
          ∙ sym (old_has name false none stays ∙ found_at older.names id name (lists_in older) onces.0 there)

  -- a name of neither index is not written
  found_none : (name : List ℕ) → ((position : ℕ) → slice_get newer.names position ≡ Some name → ⊥) →
      ((id : ℕ) → slice_get older.names id ≡ Some name → is_covered (paths_in newer) name ≡ false → ⊥) →
      find bytes_cmp name (entries_of 0 names given) ≡ None
  found_none name none absent = find_nowhere names 0 name given
      (λ position there. nowhere (written.named.of_both.each_from position name there))
    where
      nowhere : IsOfEither (is_covered (paths_in newer)) older.names newer.names name → ⊥
      nowhere (new id there) = none id there
      nowhere (kept id there stays) = absent id there stays

  found : (name : List ℕ) → find bytes_cmp name (entries_of 0 names given) ≡ both_have name
  found name =
      elim (some_position newer.names name) [
        | inl here ↦ found_newer here.0 name here.1
        | inr none ↦
            elim (cases_Bool (is_covered (paths_in newer) name)) [
              | inl drops ↦ found_none name none (λ id there stays. true≢false (sym drops ∙ stays)) ∙ sym (old_has name true none drops)
              | inr stays ↦
                  elim (some_position older.names name) [
                    | inl here ↦ found_older here.0 name none stays here.1
                    | inr absent ↦
                        found_none name none (λ id there e. absent id there)
                        ∙ sym (old_has name false none stays ∙ find_nowhere older.names 0 name (lists_in older) absent)
                  ]
            ]
      ]

  written_files : map'.from_entries {R = bytes_cmp} (entries_of 0 names given) ≡ merge_files (paths_in newer)
      (files_in older) (files_in newer)
  written_files =
      map'.same_map nat_list_cmp_total alike (map'.from_entries (entries_of 0 names given))
      (merge_files (paths_in newer) (map'.from_entries (files_read older)) (map'.from_entries (files_read newer)))
      (λ name.
      map'.get-from_entries nat_list_cmp_total (entries_of 0 names given) name
      ∙ found name
      ∙ (λ i. option_or (sym (map'.get-from_entries nat_list_cmp_total (files_read newer) name) i)
      (cond (not (is_covered (paths_in newer) name))
      (sym (map'.get-from_entries nat_list_cmp_total (files_read older) name) i) None))
      ∙ sym (get-merge_files (paths_in newer) (map'.from_entries (files_read older)) (map'.from_entries (files_read newer)) name))

  pub written_merged : encoding_of (set.items (merge_paths (paths_in older) (paths_in newer)))
      (entries_of 0 names given) ≡ merge_index older newer
  unfolding encoding
  written_merged =
      ap (encoding_of (set.items (merge_paths (paths_in older) (paths_in newer))))
      (sym (entries_in_order (entries_of 0 names given)
      (true_T (is_sorted bytes_cmp (entries_of 0 names given))
      (sorted_up (entries_of 0 names given) (up_named 0 names given written.named.of_both.ascend))))
      ∙ ap map'.entries written_files)
