-- The merge of the lists of two indexes, trigram by trigram.
use Rattle.std.proofs.Common.{◌≡◌, ℕ, ◌+◌, ◌<◌, true, ◌&&◌, List, [], length, refl, sym, ap, subst, ◌∙◌, Option, Some, None, Result, Ok, IfOk, OnOk}
use Rattle.cs_merge.proofs.Common.{and_parts, ListEntry, BytesAt, Parts, Ids, IsListFault, AreValidParts, Written, with_sent, IndexFault, TableParts, NewIds, new_ids_of, AreIdMaps, list_ids, list_trigram, lower_of, position_after, AreMergedLists, IsMergedList, known_parts, old_ids, AreAllMerged, AreRead, HasList, IsMergingLists, IsStored, both_whole}
use Rattle.cs_merge.proofs.OldListLemmas.{ids_same}
use Rattle.cs_merge.proofs.TrigramMergeLemmas.{all_newer, all_older, all_whole, fault_of_list, left_more, listed_more, positions_move}

-- the position and the trigram depend on the entries alone
abbrev with_entries : List ListEntry → Parts
with_entries es = record { paths = []; names = []; entries = es; postings = [] }

-- the lists that are read at a position
abbrev pub AreListsRead : Option (List ℕ) → TableParts → BytesAt → ℕ → Type 0
AreListsRead model source buffer a = (parts : Parts) → IsStored model source parts → HasList source buffer parts a

module _ (model : Option (List ℕ)) (source : TableParts) (newer : Parts) (older_ids newer_ids : NewIds) where
  abbrev pub Merging : BytesAt → Written → Written → ℕ → ℕ → Type 0
  Merging buffer before now a b = IsMergingLists model source buffer newer older_ids newer_ids before now a b

  -- all lists are merged
  pub all_merged : (buffer : BytesAt) (before now : Written) (a b : ℕ) → Merging buffer before now a b →
      lower_of (list_trigram (known_parts source) a) (list_trigram newer b) ≡ None
      → (parts : Parts) → IsStored model source parts → AreAllMerged parts newer older_ids newer_ids now.lists
  all_merged buffer before now a b so_far ends parts is =
      let state = so_far.known parts is in
      let none : lower_of (list_trigram parts a) (list_trigram newer b) ≡ None =
      ap (λ es. lower_of (list_trigram (with_entries es) a) (list_trigram newer b))
      (sym is.tables_are.entries) ∙ ends in
      record {
        older_sets = all_older parts newer older_ids newer_ids before now a b state none;
        newer_sets = all_newer parts newer older_ids newer_ids before now a b state none;
        whole = all_whole parts newer older_ids newer_ids before now a b state none;
      }

  -- more lists are merged, and bytes are sent
  pub merged_on : (buffer later : BytesAt) (before now next after : Written) (a b c d : ℕ) →
      Merging buffer before now a b → Merging later now next c d
      → after ≡ with_sent next after.sent → Merging later before after c d
  merged_on buffer later before now next after a b c d so_far more e = subst (λ (l : Written). Merging later before l c d) (sym e) (record {
    paths = more.paths ∙ so_far.paths;
    names = more.names ∙ so_far.names;
    left = more.left;
    read_so_far = more.read_so_far;
    known = λ parts is.
        let all = more.known parts is in
        record {
          paths = all.paths ∙ so_far.paths;
          names = all.names ∙ so_far.names;
          left = all.left;
          older_sets = all.older_sets;
          newer_sets = all.newer_sets;
          older_whole = all.older_whole;
          newer_whole = all.newer_whole;
        };
  })

  module _ (valid : AreValidParts (known_parts source)) (all_valid : (parts : Parts) → IsStored model source parts →
      AreValidParts parts) (newer_valid : AreValidParts newer) (buffer : BytesAt) (now : Written) (a b trigram : ℕ)
      (so_far : Merging buffer now now a b)
      (next : lower_of (list_trigram (known_parts source) a) (list_trigram newer b) ≡ Some trigram) where
    -- a position advances
    pub advances : a + b < position_after (known_parts source) a trigram + position_after newer b trigram
    advances = (positions_move (known_parts source) newer a b valid newer_valid trigram now.lists so_far.left next).0

    module _ (later : BytesAt) (has : AreRead model later) (read : AreListsRead model source later a) where
      -- one more trigram is merged
      pub merged_more : (after : Written) → AreIdMaps (length now.names) older_ids newer_ids
          → IsMergedList trigram now after (new_ids_of older_ids (old_ids source later a trigram).ids)
          (new_ids_of newer_ids (list_ids newer b trigram).ids) [] []
          → ((old_ids source later a trigram).whole && (list_ids newer b trigram).whole) ≡ true
          → Merging later now after (position_after (known_parts source) a trigram) (position_after newer b trigram)
      merged_more after ids given whole = record {
        paths = given.paths;
        names = given.names;
        left = left_more (known_parts source) newer a b valid newer_valid trigram now.lists so_far.left next given.given
            after.lists given.lists;
        read_so_far = has;
        known = λ parts is.
            let same = ids_same model source parts is later a (read parts is) trigram in
            let both = and_parts (old_ids source later a trigram).whole (list_ids newer b trigram).whole whole in
            let entries = sym is.tables_are.entries in
            let next' : lower_of (list_trigram parts a) (list_trigram newer b) ≡ Some trigram =
            ap (λ es. lower_of (list_trigram (with_entries es) a) (list_trigram newer b)) entries ∙ next in
            subst (λ (n : ℕ). AreMergedLists parts newer older_ids newer_ids now after n
            (position_after newer b trigram)) (ap (λ es. position_after (with_entries es) a trigram) entries)
            (listed_more parts newer older_ids newer_ids now now a b (so_far.known parts is) (all_valid parts is)
            newer_valid trigram next' (length now.names) after
            (new_ids_of older_ids (old_ids source later a trigram).ids)
            (new_ids_of newer_ids (list_ids newer b trigram).ids) ids
            (ap (λ (r : Ids). new_ids_of older_ids r.ids) same) refl
            (ap (λ (r : Ids). r.whole) (sym same) ∙ both.0) both.1 given);
      }

      -- an error of a list of the trigram
      pub merged_fault : (fault : IndexFault) →
          IsListFault ((old_ids source later a trigram).whole && (list_ids newer b trigram).whole) fault
          → (parts : Parts) → IsStored model source parts → IsListFault (both_whole parts newer) fault
      merged_fault fault is_fault parts is =
          let same = ids_same model source parts is later a (read parts is) trigram in
          fault_of_list parts newer a b trigram (old_ids source later a trigram).whole
          (list_ids newer b trigram).whole fault (ap (λ (r : Ids). r.whole) same) refl is_fault

-- ---- nested results

pub on_ok : {A E X : Type 0} {r : Result A E} {x : A} → r ≡ Ok x → OnOk r X → X
on_ok {A} {E} {X} e h = subst (λ (o : Result A E). OnOk o X) e h

pub if_ok : {A E : Type 0} (P : A → Type 0) {r : Result A E} {x : A} → r ≡ Ok x → IfOk r P → P x
if_ok {A} {E} P e h = subst (λ (o : Result A E). IfOk o P) e h
