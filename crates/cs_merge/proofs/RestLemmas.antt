-- The lists that are not merged yet: those merged so far begin the lists of the merged index.
use Rattle.std.proofs.Common.{◌≡◌, ℕ, zero, suc, ◌+◌, ◌<◌, ◌≤◌, Bool, true, false, ◌&&◌, eqb, List, [], ◌∷◌, ◌++◌, length, map, take, drop, refl, sym, ap, subst, ◌∙◌, ◌⊎◌, inl, inr, Option, Some, None, arith, append_assoc, length-append}
use Rattle.cs_merge.proofs.Common.{true≢false, and_parts, eq-eqb, or_left, append-nil, take-append-drop, concat, list_all, has, set_of_numbers, Ascends, ascends_set, has-set_of_numbers, ListEntry, PostingList, encoding_of, posting_list_bytes, sections_of, layout, list_of, Parts, are_whole, ids_read, lists_in, entries_of, AreValidParts, Written, NewIds, new_ids_of, AreIdMaps, AreMappedLists, list_ids, list_trigram, lower_of, position_after, AreMergedLists, IsMergedList, are_whole_from, rest_fault, AreTooLong, IsListsFault, both_whole}
use Rattle.std.proofs.lemmas.List.Folds.{list_all-append}
use Rattle.cs_index.specs.WrittenLists.{IsWritten, with_posting}
use Rattle.cs_index.proofs.writer.WrittenSteps.{lists_within, written_begun, written_encoding}
use Rattle.cs_merge.specs.ListsFault.{damaged, long}
use Rattle.cs_merge.proofs.DistinctIdLemmas.{new_ids_of_both, rise_of_set}
use Rattle.cs_merge.proofs.IdMergeLemmas.{has_both}
use Rattle.cs_merge.proofs.NextListLemmas.{damage_in_list, ids_rise}
use Rattle.cs_merge.proofs.TrigramMergeLemmas.{all_newer, all_older, list_above, list_fits, listed_more, positions_move}
use Rattle.std.proofs.Math.Bool.{or-false}
use Rattle.std.proofs.lemmas.Bool.{true_from_ne_false}

module _ (older newer : Parts) (older_ids newer_ids : NewIds) (before : Written) (older_are : AreValidParts older)
    (newer_are : AreValidParts newer) (ids_are : AreIdMaps (length before.names) older_ids newer_ids) where
  -- The lists of the next trigram are merged.
  record OneMore (now : Written) (a b : ℕ) : Type 0 where
    after : Written
    more : List PostingList
    lists_are : after.lists ≡ now.lists ++ more
    written : IsWritten after
    older_position : ℕ
    newer_position : ℕ
    state : AreMergedLists older newer older_ids newer_ids before after older_position newer_position
    moves : a + b < older_position + newer_position
    older_within : older_position ≤ length older.entries
    newer_within : newer_position ≤ length newer.entries

  -- All lists are merged.
  pub record AllMerged (now : Written) : Type 0 where
    pub later : Written
    pub written : IsWritten later
    pub paths : later.paths ≡ before.paths
    pub names : later.names ≡ before.names
    pub older_sets : AreMappedLists older_ids (lists_in older) later.lists
    pub newer_sets : AreMappedLists newer_ids (lists_in newer) later.lists
    pub more : List PostingList
    pub lists_are : later.lists ≡ now.lists ++ more

  module _ (older_whole : are_whole older ≡ true) (newer_whole : are_whole newer ≡ true) where
    one_more : (now : Written) (a b : ℕ) → AreMergedLists older newer older_ids newer_ids before now a b →
        IsWritten now → (trigram : ℕ) → lower_of (list_trigram older a) (list_trigram newer b) ≡ Some trigram →
        OneMore now a b
    one_more now a b state is trigram next =
        let moves = positions_move older newer a b older_are newer_are trigram now.lists state.left next in
        record {
          after = with_ids both;
          more = list_of trigram both;
          lists_are = lists_with both;
          written = written_with both refl;
          older_position = position_after older a trigram;
          newer_position = position_after newer b trigram;
          state = listed_more older newer older_ids newer_ids before now a b state older_are newer_are trigram next
              (length before.names) (with_ids both) some others ids_are refl refl (list_whole older a older_whole)
              (list_whole newer b newer_whole) given;
          moves = moves.0;
          older_within = moves.1;
          newer_within = moves.2;
        }
      where
        some : List ℕ
        some = new_ids_of older_ids (list_ids older a trigram).ids

        others : List ℕ
        others = new_ids_of newer_ids (list_ids newer b trigram).ids

        both : List ℕ
        both = set_of_numbers (some ++ others)

        with_ids : List ℕ → Written
        with_ids [] = now
        with_ids (id ∷ ids) = with_posting now (trigram, id ∷ ids)

        lists_with : (ids : List ℕ) → (with_ids ids).lists ≡ now.lists ++ list_of trigram ids
        lists_with [] = sym (append-nil now.lists)
        lists_with (id ∷ ids) = refl

        paths_with : (ids : List ℕ) → (with_ids ids).paths ≡ now.paths
        paths_with [] = refl
        paths_with (id ∷ ids) = refl

        names_with : (ids : List ℕ) → (with_ids ids).names ≡ now.names
        names_with [] = refl
        names_with (id ∷ ids) = refl

        sent_with : (ids : List ℕ) → (with_ids ids).sent ≡ now.sent
        sent_with [] = refl
        sent_with (id ∷ ids) = refl

        list_whole : (parts : Parts) (position : ℕ) → are_whole parts ≡ true → (list_ids parts position trigram).whole ≡ true
        list_whole parts position whole = true_from_ne_false (list_ids parts position trigram).whole
            (λ fails. true≢false (sym whole ∙ damage_in_list parts position trigram fails))

        given : IsMergedList trigram now (with_ids both) some others [] []
        given = record {
          given = both;
          paths = paths_with both;
          names = names_with both;
          lists = lists_with both;
          sent = sent_with both;
          each = λ id. or-false (has both id) ∙ has-set_of_numbers id (some ++ others) ∙ has_both some others id;
          older_rise = tt;
          newer_rise = tt;
        }

        below : (id : ℕ) → has both id ≡ true → id < length now.names
        below id h =
            let are = subst (λ names. AreIdMaps (length names) older_ids newer_ids) (sym state.names) ids_are in
            (new_ids_of_both (length now.names) (length older.names) (length newer.names) older_ids newer_ids
            (list_ids older a trigram).ids (list_ids newer b trigram).ids are.once.older_once are.once.newer_once
            are.once.apart are.older_below are.newer_below (ids_rise older a trigram)
            (ids_rise newer b trigram)).below id
            (sym (has-set_of_numbers id (some ++ others)) ∙ h)

        written_with : (ids : List ℕ) → ids ≡ both → IsWritten (with_ids ids)
        written_with [] same = is
        written_with (id ∷ ids) same =
            written_begun now (trigram, id ∷ ids) is small
            (list_above older newer a b older_are newer_are trigram now.lists state.left next) (
              (λ e. cc),
              rise_of_set (length now.names) 0 (id ∷ ids) (omega arith)
                  (subst Ascends (sym same) (ascends_set (some ++ others)))
                  (λ n h. below n (sym (ap (λ ns. has ns n) same) ∙ h)),
            )
          where
            small : trigram < 16777215
            small = elim (list_fits older newer a b older_are newer_are trigram older_ids newer_ids) [
              | inl less ↦ less
              | inr none ↦ absurd (true≢false (sym (or_left (eqb id id) (has ids id) (eq-eqb id id refl))
                  ∙ ap (λ ns. has ns id) same ∙ has-set_of_numbers id (some ++ others)
                  ∙ (λ i. has (none.0 i ++ none.1 i) id)))
            ]

    next_of : (now : Written) (a b : ℕ) → AreMergedLists older newer older_ids newer_ids before now a b →
        IsWritten now → (lower_of (list_trigram older a) (list_trigram newer b) ≡ None) ⊎ OneMore now a b
    next_of now a b state is = by_next (lower_of (list_trigram older a) (list_trigram newer b)) refl
      where
        by_next : (o : Option ℕ) → lower_of (list_trigram older a) (list_trigram newer b) ≡ o →
            (lower_of (list_trigram older a) (list_trigram newer b) ≡ None) ⊎ OneMore now a b
        by_next None e = inl e
        by_next (Some trigram) e = inr (one_more now a b state is trigram e)

    merged_now : (now : Written) (a b : ℕ) → AreMergedLists older newer older_ids newer_ids before now a b →
        IsWritten now → lower_of (list_trigram older a) (list_trigram newer b) ≡ None → AllMerged now
    merged_now now a b state is ends = record {
      later = now;
      written = is;
      paths = state.paths;
      names = state.names;
      older_sets = all_older older newer older_ids newer_ids before now a b state ends;
      newer_sets = all_newer older newer older_ids newer_ids before now a b state ends;
      more = [];
      lists_are = sym (append-nil now.lists);
    }

    merged_later : (now : Written) (a b : ℕ) (one : OneMore now a b) → AllMerged one.after → AllMerged now
    merged_later now a b one all = record {
      later = all.later;
      written = all.written;
      paths = all.paths;
      names = all.names;
      older_sets = all.older_sets;
      newer_sets = all.newer_sets;
      more = one.more ++ all.more;
      lists_are = all.lists_are ∙ ap (λ ps. ps ++ all.more) one.lists_are ∙ append_assoc now.lists one.more all.more;
    }

    merged_all : (fuel : ℕ) (now : Written) (a b : ℕ) → AreMergedLists older newer older_ids newer_ids before now a b →
        IsWritten now → length older.entries + length newer.entries ≤ fuel + (a + b) → AllMerged now
    merged_all zero now a b state is enough =
        elim (next_of now a b state is) [
          | inl ends ↦ merged_now now a b state is ends
          | inr one ↦ let on = one.moves in let first = one.older_within in let second = one.newer_within in
              absurd (omega (arith, on, first, second, enough))
        ]
    merged_all (suc fuel) now a b state is enough =
        elim (next_of now a b state is) [
          | inl ends ↦ merged_now now a b state is ends
          | inr one ↦ let on = one.moves in merged_later now a b one
              (merged_all fuel one.after one.older_position one.newer_position one.state one.written
              (omega (arith, on, enough)))
        ]

    bytes_grow : (ps qs : List PostingList) → length (concat (map posting_list_bytes ps))
        ≤ length (concat (map posting_list_bytes (ps ++ qs)))
    bytes_grow [] qs = omega arith
    bytes_grow (p ∷ ps) qs =
        let rest = bytes_grow ps qs in
        let one = length-append (posting_list_bytes p) (concat (map posting_list_bytes ps)) in
        let other = length-append (posting_list_bytes p) (concat (map posting_list_bytes (ps ++ qs))) in
        omega (arith, rest, one, other)

    pub too_long : (most : ℕ) (now : Written) (a b : ℕ) → AreMergedLists older newer older_ids newer_ids before now a b
        → IsWritten now → most < length (concat (map posting_list_bytes now.lists)) →
        AreTooLong older newer older_ids newer_ids before most
    too_long most now a b state is more =
        let all = merged_all (length older.entries + length newer.entries) now a b state is (omega arith) in
        let within = lists_within all.later.paths all.later.names all.later.lists in
        let grown = bytes_grow now.lists all.more in
        let lists = ap (λ ps. length (concat (map posting_list_bytes ps))) all.lists_are in
        let index : length (layout (sections_of all.later.paths all.later.names all.later.lists))
        ≡ length (encoding_of before.paths (entries_of 0 before.names all.later.lists)) =
        ap length (written_encoding all.later all.written)
        ∙ (λ i. length (encoding_of (all.paths i) (entries_of 0 (all.names i) all.later.lists))) in
        record {
          lists = all.later.lists;
          older_sets = all.older_sets;
          newer_sets = all.newer_sets;
          long = omega (arith, more, within, grown, lists, index);
        }

  -- ---- once the lists so far are too long

  whole_both : (parts : Parts) (position : ℕ) → are_whole parts
      ≡ (list_all (λ (e : ListEntry). (ids_read parts e).whole) (take position parts.entries) && are_whole_from parts
      position)
  whole_both parts position =
      ap (list_all (λ (e : ListEntry). (ids_read parts e).whole)) (sym (take-append-drop position parts.entries))
      ∙ list_all-append (λ (e : ListEntry). (ids_read parts e).whole) (take position parts.entries) (drop position parts.entries)

  pub rest_says : (most : ℕ) (now : Written) (a b : ℕ) → AreMergedLists older newer older_ids newer_ids before now a b →
      IsWritten now → most < length (concat (map posting_list_bytes now.lists)) → IsListsFault older newer older_ids
      newer_ids before most (rest_fault (are_whole_from older a && are_whole_from newer b))
  rest_says most now a b state is more = by_rest (are_whole_from older a && are_whole_from newer b) refl
    where
      older_is : are_whole older ≡ are_whole_from older a
      older_is = whole_both older a ∙ ap (λ t. t && are_whole_from older a) state.older_whole

      newer_is : are_whole newer ≡ are_whole_from newer b
      newer_is = whole_both newer b ∙ ap (λ t. t && are_whole_from newer b) state.newer_whole

      both_is : both_whole older newer ≡ (are_whole_from older a && are_whole_from newer b)
      both_is = λ i. older_is i && newer_is i

      by_rest : (t : Bool) → (are_whole_from older a && are_whole_from newer b) ≡ t → IsListsFault older newer older_ids
          newer_ids before most (rest_fault t)
      by_rest true e =
          let whole = and_parts (are_whole older) (are_whole newer) (both_is ∙ e) in
          long refl (both_is ∙ e) (too_long whole.0 whole.1 most now a b state is more)
      by_rest false e = damaged refl (both_is ∙ e)
