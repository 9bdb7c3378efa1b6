-- The ids of an index sorted by name.
-- docs/FORMAT.md, "The index as it is read".
use Rattle.std.specs.Prelude.{◌≡◌, true, false, ℕ, List, length, map, Option, Some, None, IsPermutation}
use Rattle.std.specs.List.{range_with_len, zip}
use Rattle.cs_tree.specs.Folders.{are_distinct}
use Rattle.cs_tree.specs.NamesAscending.{are_ascending}

abbrev pub NameWithId : Type 0
NameWithId = List ℕ × ℕ

abbrev pub name_in : NameWithId → List ℕ
name_in named = named.0

abbrev pub id_in : NameWithId → ℕ
id_in named = named.1

abbrev pub with_ids : List (List ℕ) → List NameWithId
with_ids names = zip names (range_with_len 0 (length names))

-- The ids are a permutation of all ids for which the names are strictly ascending.
pub record IsOrder (names : List (List ℕ)) (ids : List ℕ) : Type 0 where
  pub named : List NameWithId
  pub moved : IsPermutation (with_ids names) named
  pub ascend : are_ascending (map name_in named) ≡ true
  pub have : map id_in named ≡ ids

-- the ids are sorted by name, or two names are equal
abbrev pub IsOrderOf : List (List ℕ) → Option (List ℕ) → Type 0
IsOrderOf names (Some ids) = IsOrder names ids
IsOrderOf names None = are_distinct names ≡ false
