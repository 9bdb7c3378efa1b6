-- Rows: the ids of a window that match each node of a form, as a flag for each id. A row without flags has no id.
use Rattle.std.specs.Prelude.{◌≡◌, ◌<◌, ◌≤◌, ◌+◌, ◌-◌, ◌⊎◌, ◌||◌, ℕ, Bool, false, List, length, map, slice_index_or, Vec, Option, None, Some}
use Rattle.std.specs.declared.alloc.Global.{Global}
use Rattle.std.specs.List.{AllByRecursion, list_all}
use Rattle.cs_trigram.specs.Trigram.{has}
use Rattle.cs_index.specs.AscendingIds.{AscendWithin, max_ids}
use Rattle.cs_index.specs.PostingLists.{Ids}
use Rattle.cs_index.specs.StoredLists.{ListState, Holds, ids_left}

-- the flags of all rows at a place of the window
abbrev pub column : ℕ → List (Vec Bool Global) → List Bool
column k rows = map (λ row. slice_index_or row.items k false) rows

-- each row has a flag for each of these ids, or none
abbrev pub HaveWidth : ℕ → List (Vec Bool Global) → Type 0
HaveWidth width rows = AllByRecursion (λ row. (length row.items ≡ 0) ⊎ (length row.items ≡ width)) rows

-- The list as it is read further has the same ids from this one on.
pub record IsReadTo (end : ℕ) (list rest : Ids) : Type 0 where
  pub same : (id : ℕ) → end ≤ id → has rest.ids id ≡ has list.ids id
  pub ascend : AscendWithin max_ids 0 rest.ids
  pub whole : rest.whole ≡ list.whole

-- the list can be read on, and the ids that are left of it ascend
abbrev pub IsLeft : List ℕ → ListState → Type 0
IsLeft bytes list = Holds bytes list × AscendWithin max_ids 0 (ids_left bytes list).ids

-- the list of a store as it is read further
abbrev pub IsReadOn : List ℕ → ℕ → ListState → ListState → Type 0
IsReadOn bytes end list rest = Holds bytes rest × IsReadTo end (ids_left bytes list) (ids_left bytes rest)

-- The flags of a row are the ids of a list in the window.
abbrev pub IsRowOf : List ℕ → ℕ → ℕ → ListState → List Bool → Type 0
IsRowOf bytes start end list row =
    (k : ℕ) → start + k < end → slice_index_or row k false ≡ has (ids_left bytes list).ids (start + k)

-- The row has the flags of the ids that were read of a list, and the rest of the list has the others.
pub record RowSoFar (start end : ℕ) (list : Ids) (row : List Bool) (rest : Ids) : Type 0 where
  pub width : (length row ≡ 0) ⊎ (length row ≡ end - start)
  pub flags : (k : ℕ) → start + k < end → (slice_index_or row k false || has rest.ids (start + k)) ≡ has list.ids (start + k)
  pub same : (id : ℕ) → end ≤ id → has rest.ids id ≡ has list.ids id
  pub from : AscendWithin max_ids start rest.ids
  pub whole : rest.whole ≡ list.whole

-- whether each list has the id
abbrev pub have_id : List ℕ → List ListState → ℕ → List Bool
have_id bytes lists id = map (λ (list : ListState). has (ids_left bytes list).ids id) lists

-- the list at this position does not have the id
abbrev pub LacksId : List Bool → Option ℕ → Type 0
LacksId bits None = ⊥
LacksId bits (Some at) = slice_index_or bits at false ≡ false

-- whether each list is whole
abbrev pub lists_are_whole : List ℕ → List ListState → Bool
lists_are_whole bytes lists = list_all (λ (list : ListState). (ids_left bytes list).whole) lists
