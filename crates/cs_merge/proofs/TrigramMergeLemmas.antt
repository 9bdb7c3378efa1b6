-- The merge of the lists, trigram by trigram.
use Rattle.std.proofs.Common.{◌≡◌, ℕ, ◌+◌, ◌<◌, ◌≤◌, Bool, true, false, cond, ◌&&◌, ◌||◌, List, [], ◌++◌, length, take, refl, sym, ap, subst, ◌∙◌, ◌⊎◌, inl, inr, Option, Some, None, arith, slice_get, get_or, ltb, option_map}
use Rattle.cs_merge.proofs.Common.{and_from, cases_lt, and_cases, and_right, and_left, length-map, same_Some, slice_get-get_or, list_all, has, closing_trigram, ListEntry, PostingList, Written, AllBelow, Parts, are_whole, ids_read, lists_in, whole_ids, AreValidParts, IsListFault, AscendWithin, IndexFault, both_whole, NewIds, new_ids_of, IsIncreasing, StayBelow, AreMappedLists, AreIdMaps, list_of, list_ids, lower_of, position_after, list_trigram, AreLeft, AreMergedLists, IsMergedList, none-some}
use Rattle.std.proofs.Math.Seq.{take-length}
use Rattle.cs_merge.proofs.TrigramSetLemmas.{all_below_more, newer_lists_mapped, older_lists_mapped}
use Rattle.cs_merge.proofs.NextListLemmas.{closing_has_none, damage_in_list, entry_trigram, ids_rise, is_lower, moves, moves_within, next_above, sets_grow, whole_so_far}
use Rattle.cs_merge.proofs.IdMapLemmas.{rise_mapped}
use Rattle.std.proofs.Math.Bool.{or-false}

-- ---- damage

pub older_damaged : (older newer : Parts) → are_whole older ≡ false → both_whole older newer ≡ false
older_damaged older newer h = and_left (are_whole older) (are_whole newer) h

pub newer_damaged : (older newer : Parts) → are_whole newer ≡ false → both_whole older newer ≡ false
newer_damaged older newer h = and_right (are_whole older) (are_whole newer) h

pub fault_of_list : (older newer : Parts) (a b trigram : ℕ) (some others : Bool) (fault : IndexFault) →
    some ≡ (list_ids older a trigram).whole → others ≡ (list_ids newer b trigram).whole →
    IsListFault (some && others) fault → IsListFault (both_whole older newer) fault
fault_of_list older newer a b trigram some others fault e f (inl damaged) =
    inl (
      damaged.0,
      elim (and_cases some others damaged.1) [
        | inl first ↦ older_damaged older newer (damage_in_list older a trigram (sym e ∙ first))
        | inr second ↦ newer_damaged older newer (damage_in_list newer b trigram (sym f ∙ second))
      ],
    )
fault_of_list older newer a b trigram some others fault e f (inr memory) = inr memory

-- ---- one more trigram

-- the new ids of a list ascend, if the map is increasing
pub mapped_rise : (parts : Parts) (position trigram count : ℕ) (new_ids : NewIds) → IsIncreasing new_ids →
    StayBelow count new_ids → AscendWithin count 0 (new_ids_of new_ids (list_ids parts position trigram).ids)
mapped_rise parts position trigram count new_ids order below =
    rise_mapped new_ids count (length parts.names) 0 0 (list_ids parts position trigram).ids order below
    (ids_rise parts position trigram) (λ id new h e. omega arith)

module _ (older newer : Parts) (a b : ℕ) (older_are : AreValidParts older) (newer_are : AreValidParts newer) (trigram : ℕ) where
  pub list_fits : (older_ids newer_ids : NewIds) →
      (trigram < closing_trigram) ⊎ ((new_ids_of older_ids (list_ids older a trigram).ids ≡ []) ×
      (new_ids_of newer_ids (list_ids newer b trigram).ids ≡ []))
  list_fits older_ids newer_ids =
      elim (cases_lt trigram closing_trigram) [
        | inl below ↦ inl below
        | inr from ↦ inr (
          ap (new_ids_of older_ids) (closing_has_none older a trigram older_are from),
          ap (new_ids_of newer_ids) (closing_has_none newer b trigram newer_are from),
        )
      ]

  module _ (lists : List PostingList) (left : AreLeft older.entries newer.entries lists a b)
      (next : lower_of (list_trigram older a) (list_trigram newer b) ≡ Some trigram) where
    pub list_above : AllBelow lists trigram
    list_above = by_index (is_lower (list_trigram older a) (list_trigram newer b) trigram next).one
      where
        of_entry : (parts : Parts) (position : ℕ) →
            ((entry : ListEntry) → slice_get parts.entries position ≡ Some entry → AllBelow lists entry.trigram) →
            list_trigram parts position ≡ Some trigram → AllBelow lists trigram
        of_entry parts position above e = by_entry (slice_get parts.entries position) refl
          where
            by_entry : (o : Option ListEntry) → slice_get parts.entries position ≡ o → AllBelow lists trigram
            by_entry None f = absurd (none-some trigram (sym (ap (option_map (λ (d : ListEntry). d.trigram)) f) ∙ e))
            by_entry (Some entry) f = subst (AllBelow lists)
                (same_Some entry.trigram trigram (sym (ap (option_map (λ (d : ListEntry). d.trigram)) f) ∙ e))
                (above entry f)

        by_index : (list_trigram older a ≡ Some trigram) ⊎ (list_trigram newer b ≡ Some trigram) → AllBelow lists trigram
        by_index (inl e) = of_entry older a left.older_above e
        by_index (inr e) = of_entry newer b left.newer_above e

    older_least : (entry : ListEntry) → slice_get older.entries a ≡ Some entry → trigram ≤ entry.trigram
    older_least entry there = (is_lower (list_trigram older a) (list_trigram newer b) trigram next).some_from
        entry.trigram (entry_trigram older a entry there)

    newer_least : (entry : ListEntry) → slice_get newer.entries b ≡ Some entry → trigram ≤ entry.trigram
    newer_least entry there = (is_lower (list_trigram older a) (list_trigram newer b) trigram next).other_from
        entry.trigram (entry_trigram newer b entry there)

    -- no position moves back, and at least one advances
    pub positions_move : (a + b < position_after older a trigram + position_after newer b trigram) ×
        (position_after older a trigram ≤ length older.entries) ×
        (position_after newer b trigram ≤ length newer.entries)
    positions_move =
        let first = moves_within older a trigram left.older_within in
        let second = moves_within newer b trigram left.newer_within in
        let up = first.0 in
        let up' = second.0 in (
          elim (is_lower (list_trigram older a) (list_trigram newer b) trigram next).one [
            | inl e ↦ let on = moves older a trigram e in omega (arith, on, up')
            | inr e ↦ let on = moves newer b trigram e in omega (arith, on, up)
          ],
          first.1,
          second.1,
        )

    pub left_more : (given : List ℕ) (after : List PostingList) → after ≡ lists ++ list_of trigram given →
        AreLeft older.entries newer.entries after (position_after older a trigram) (position_after newer b trigram)
    left_more given after is =
        let on = positions_move in
        record {
          older_within = on.1;
          newer_within = on.2;
          older_above = λ entry there. subst (λ ps. AllBelow ps entry.trigram) (sym is)
              (all_below_more trigram entry.trigram lists given list_above
              (next_above older a trigram older_are older_least entry there));
          newer_above = λ entry there. subst (λ ps. AllBelow ps entry.trigram) (sym is)
              (all_below_more trigram entry.trigram lists given list_above
              (next_above newer b trigram newer_are newer_least entry there));
        }

module _ (older newer : Parts) (older_ids newer_ids : NewIds) (before now : Written) (a b : ℕ)
    (state : AreMergedLists older newer older_ids newer_ids before now a b) where
  module _ (older_are : AreValidParts older) (newer_are : AreValidParts newer) (trigram : ℕ)
      (next : lower_of (list_trigram older a) (list_trigram newer b) ≡ Some trigram) where
    pub listed_more : (count : ℕ) (after : Written) (some others : List ℕ) → AreIdMaps count older_ids newer_ids →
        some ≡ new_ids_of older_ids (list_ids older a trigram).ids → others
        ≡ new_ids_of newer_ids (list_ids newer b trigram).ids → (list_ids older a trigram).whole ≡ true →
        (list_ids newer b trigram).whole ≡ true → IsMergedList trigram now after some others [] [] →
        AreMergedLists older newer older_ids newer_ids before after (position_after older a trigram)
        (position_after newer b trigram)
    listed_more count after some others are e f whole whole' given =
        record {
          paths = given.paths ∙ state.paths;
          names = given.names ∙ state.names;
          left = left_more older newer a b older_are newer_are trigram now.lists state.left next given.given after.lists given.lists;
          older_sets = subst (AreMappedLists older_ids (take (position_after older a trigram) (lists_in older))) (sym given.lists)
              (older_lists_mapped count trigram older_ids newer_ids are now.lists (list_ids older a trigram).ids
              (list_ids newer b trigram).ids given.given both (take a (lists_in older))
              (take (position_after older a trigram) (lists_in older)) (sets_grow older a trigram whole)
              state.older_sets);
          newer_sets = subst (AreMappedLists newer_ids (take (position_after newer b trigram) (lists_in newer))) (sym given.lists)
              (newer_lists_mapped count trigram older_ids newer_ids are now.lists (list_ids older a trigram).ids
              (list_ids newer b trigram).ids given.given both (take b (lists_in newer))
              (take (position_after newer b trigram) (lists_in newer)) (sets_grow newer b trigram whole')
              state.newer_sets);
          older_whole = whole_so_far older a trigram state.older_whole whole;
          newer_whole = whole_so_far newer b trigram state.newer_whole whole';
        }
      where
        both : (n : ℕ) → has given.given n ≡ (has (new_ids_of older_ids (list_ids older a trigram).ids) n
            || has (new_ids_of newer_ids (list_ids newer b trigram).ids) n)
        both n = sym (or-false (has given.given n)) ∙ given.each n ∙ (λ i. has (e i) n || has (f i) n)

  -- ---- the end

  past : (parts : Parts) (position : ℕ) → list_trigram parts position ≡ None → length parts.entries ≤ position
  past parts position e =
      elim (cases_lt position (length parts.entries)) [
        | inl within ↦
            let d : ListEntry = record { trigram = 0; count = 0; offset = 0 } in
            absurd (none-some ((get_or parts.entries position d).trigram)
            (sym (sym (entry_trigram parts position (get_or parts.entries position d)
            (slice_get-get_or parts.entries position d within)) ∙ e)))
        | inr from ↦ from
      ]

  both_none : (some other : Option ℕ) → lower_of some other ≡ None → (some ≡ None) × (other ≡ None)
  both_none None other e = (refl, e)
  both_none (Some x) None e = cc
  both_none (Some x) (Some y) e = by_test (ltb y x) e
    where
      by_test : (t : Bool) → cond t (Some y) (Some x) ≡ None → (Some x ≡ None) × (Some y ≡ None)
      by_test true f = cc
      by_test false f = cc

  module _ (ends : lower_of (list_trigram older a) (list_trigram newer b) ≡ None) where
    older_past : a ≡ length older.entries
    older_past = let from = past older a (both_none (list_trigram older a) (list_trigram newer b) ends).0 in
        let within = state.left.older_within in omega (arith, from, within)

    newer_past : b ≡ length newer.entries
    newer_past = let from = past newer b (both_none (list_trigram older a) (list_trigram newer b) ends).1 in
        let within = state.left.newer_within in omega (arith, from, within)

    all_lists : (parts : Parts) (position : ℕ) → position ≡ length parts.entries →
        ◌≡◌ {A = List PostingList} (take position (lists_in parts)) (lists_in parts)
    all_lists parts position e =
        let same : length (lists_in parts) ≡ length parts.entries =
        length-map parts.entries (λ (entry : ListEntry). (entry.trigram, whole_ids (ids_read parts entry))) in
        ap (λ n. take n (lists_in parts)) (e ∙ sym same) ∙ take-length (lists_in parts)

    all_entries : (parts : Parts) (position : ℕ) → position ≡ length parts.entries →
        ◌≡◌ {A = List ListEntry} (take position parts.entries) parts.entries
    all_entries parts position e = ap (λ n. take n parts.entries) e ∙ take-length parts.entries

    pub all_older : AreMappedLists older_ids (lists_in older) now.lists
    all_older = subst (λ (lists : List PostingList). AreMappedLists older_ids lists now.lists)
        (all_lists older a older_past) state.older_sets

    pub all_newer : AreMappedLists newer_ids (lists_in newer) now.lists
    all_newer = subst (λ (lists : List PostingList). AreMappedLists newer_ids lists now.lists)
        (all_lists newer b newer_past) state.newer_sets

    pub all_whole : both_whole older newer ≡ true
    all_whole =
        and_from (are_whole older) (are_whole newer)
        (ap (list_all (λ (e : ListEntry). (ids_read older e).whole)) (sym (all_entries older a older_past)) ∙ state.older_whole)
        (ap (list_all (λ (e : ListEntry). (ids_read newer e).whole)) (sym (all_entries newer b newer_past)) ∙ state.newer_whole)
