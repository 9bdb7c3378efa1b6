-- Names in ascending order, whatever order their ids have.
-- docs/PROMISES.md, "Merging".
use Rattle.std.specs.Prelude.{◌≡◌, ℕ, ◌<◌, true, List, [], length, map, slice_get, slice_index_or, Option, Some, None}
use Rattle.std.specs.List.{AllByRecursion}
use Rattle.cs_tree.specs.NamesAscending.{are_ascending}
use Rattle.cs_index.specs.MaxNames.{max_names}
use Rattle.cs_index.specs.Encoding.{IsString}
use Rattle.cs_index.specs.OpenedParts.{Parts, are_covered}

-- Names that an index can have.
pub record AreIndexNames (names : List (List ℕ)) : Type 0 where
  pub each_name : AllByRecursion IsString names
  pub bound : length names < max_names

-- The names of an index by their ids, and the permutation that sorts them; `None` if they are sorted.
pub record SortedNames : Type 0 where
  pub names : List (List ℕ)
  pub order : Option (List ℕ)

-- the id of a rank
abbrev pub id_in_order : Option (List ℕ) → ℕ → Option ℕ
id_in_order None position = Some position
id_in_order (Some ids) position = slice_get ids position

abbrev pub id_of_rank : SortedNames → ℕ → Option ℕ
id_of_rank ordered position = id_in_order ordered.order position

-- the names in the order of the permutation
abbrev pub names_in_order : Option (List ℕ) → List (List ℕ) → List (List ℕ)
names_in_order None names = names
names_in_order (Some ids) names = map (λ id. slice_index_or names id []) ids

abbrev pub sorted_names : SortedNames → List (List ℕ)
sorted_names ordered = names_in_order ordered.order ordered.names

-- The permutation sorts the names: they ascend, and each id has a rank.
pub record AreSortedNames (ordered : SortedNames) : Type 0 where
  pub are : AreIndexNames ordered.names
  pub ascend : are_ascending (sorted_names ordered) ≡ true
  pub long : length (sorted_names ordered) ≡ length ordered.names
  pub there : (position id : ℕ) → id_of_rank ordered position ≡ Some id → slice_get (sorted_names ordered) position
      ≡ slice_get ordered.names id
  pub each : (id : ℕ) → id < length ordered.names → (position : ℕ) × (position < length ordered.names) ×
      (id_of_rank ordered position ≡ Some id)

-- The names of both indexes are sorted, and they pass the tests that come before any list is read.
pub record AreTestedNames (old : List (List ℕ)) (new : Parts) (older_sorted newer_sorted : SortedNames) : Type 0 where
  pub older_names : older_sorted.names ≡ old
  pub newer_names : newer_sorted.names ≡ new.names
  pub older : AreSortedNames older_sorted
  pub newer : AreSortedNames newer_sorted
  pub covered : are_covered new ≡ true
