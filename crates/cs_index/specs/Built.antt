-- The model of a `Builder`, and the errors of `add`.
-- docs/FORMAT.md, "The index as it is written".
use Rattle.std.specs.Prelude.{◌≡◌, ℕ, ◌-◌, ◌≤◌, ◌<◌, Bool, true, false, not, ◌&&◌, nat_eq, nat_lt, List, [], ◌∷◌, ◌++◌, length, slice_get}
use Rattle.cs_tree.specs.PathSet.{Paths}
use Rattle.cs_tree.specs.NameOrder.{bytes_cmp}
use Rattle.cs_tree.specs.NamesAscending.{are_ascending}
use Rattle.cs_trigram.specs.TrigramSets.{IsTrigramSet}
use Rattle.std.specs.Option.{option_map_or}
use Rattle.std.specs.List.{list_all, AllByRecursion}
use Rattle.std.specs.Ordering.{is_lt}
use Rattle.std.specs.FinMap as map'
use Rattle.cs_tree.specs.PathSet as set'
use Rattle.cs_tree.specs.Cover.{covers}
use Rattle.cs_index.specs.Encoding.{Entry, Files, encoding_of, names_of, IsString}
use Rattle.cs_index.specs.MaxNames.{max_names}

-- The paths, and the names that were added, each with its trigrams.
pub record Built : Type 0 where
  pub paths : List (List ℕ)
  pub entries : List Entry

-- with one more name
abbrev pub with_entry : Built → List ℕ → List ℕ → Built
with_entry built name trigrams = record { paths = built.paths; entries = built.entries ++ (name, trigrams) ∷ [] }

-- the encoding is longer than this, whatever entries are added
abbrev pub IsAlwaysLonger : ℕ → Built → Type 0
IsAlwaysLonger limit built = (more : List Entry) → limit < length (encoding_of built.paths (built.entries ++ more))

-- the text is not empty and contains no NUL
abbrev pub is_storable : List ℕ → Bool
is_storable text = not (nat_eq (length text) 0) && list_all (λ b. nat_lt 0 b) text

-- the text is greater than the last one, if there is one
abbrev pub is_above : List (List ℕ) → List ℕ → Bool
is_above texts text = option_map_or (λ last. is_lt (bytes_cmp last text)) (slice_get texts (length texts - 1)) true

-- the path is less than the other and does not cover it; then the other does not cover it either
abbrev pub is_before : List ℕ → List ℕ → Bool
is_before path other = is_lt (bytes_cmp path other) && not (covers path other)

-- strictly ascending, and none covers another
abbrev pub are_reduced : List (List ℕ) → Bool
are_reduced [] = true
are_reduced (path ∷ paths) = list_all (is_before path) paths && are_reduced paths

-- the name is valid, but not greater than the last one
abbrev pub IsOutOfOrder : Built → List ℕ → Type 0
IsOutOfOrder built name = (is_storable name ≡ true) × (is_above (names_of built.entries) name ≡ false)

-- the name is valid and greater than the last one, but the builder is full
abbrev pub IsFull : ℕ → Built → List ℕ → Type 0
IsFull limit built name = (is_storable name ≡ true) × (is_above (names_of built.entries) name ≡ true) × (limit ≤ length built.entries)

-- paths that an index can have
abbrev pub are_paths : List (List ℕ) → Bool
are_paths paths = list_all is_storable paths && are_reduced paths

-- the set of the paths, and the map from names to their trigrams
abbrev pub path_set : Built → Paths
path_set built = set'.from_list built.paths

abbrev pub file_map : Built → Files
file_map built = map'.from_entries built.entries

-- The invariant of the model.
pub record IsBuilt (built : Built) : Type 0 where
  pub paths : are_paths built.paths ≡ true
  pub each_path : AllByRecursion IsString built.paths
  pub each_name : AllByRecursion IsString (names_of built.entries)
  pub ascend : are_ascending (names_of built.entries) ≡ true
  pub sets : AllByRecursion (λ ((name, trigrams) : Entry). IsTrigramSet trigrams) built.entries
  pub bound : length built.entries ≤ max_names
