-- The parts of an opened index, and what can be read from them.
-- docs/FORMAT.md, "The index as it is read".
use Rattle.std.specs.Prelude.{ℕ, Bool, List, [], length, map, if◌then◌else◌}
use Rattle.cs_index.specs.PostingLists.{Ids, read_list, entries_of}
use Rattle.std.specs.List.{list_all}
use Rattle.std.specs.FinMap as map
use Rattle.cs_tree.specs.PathSet.{Paths}
use Rattle.cs_tree.specs.PathSet as set
use Rattle.cs_tree.specs.Cover.{is_covered}
use Rattle.cs_index.specs.Encoding.{Entry, Files, ListEntry, PostingList}

-- The paths, the names, the entries of the list index, and the section of posting lists.
pub record Parts : Type 0 where
  pub paths : List (List ℕ)
  pub names : List (List ℕ)
  pub entries : List ListEntry
  pub postings : List ℕ

-- the ids of an entry's list, up to the first damage
abbrev pub ids_read : Parts → ListEntry → Ids
ids_read parts e = read_list parts.postings (length parts.names) e

-- the ids of a whole list; a damaged list has none
abbrev pub whole_ids : Ids → List ℕ
whole_ids r = if r.whole then r.ids else []

-- each trigram with the ids of its list
abbrev pub lists_in : Parts → List PostingList
lists_in parts = map (λ (e : ListEntry). (e.trigram, whole_ids (ids_read parts e))) parts.entries

-- whether every list is whole
abbrev pub are_whole : Parts → Bool
are_whole parts = list_all (λ (e : ListEntry). (ids_read parts e).whole) parts.entries

-- each name with the trigrams of the lists that contain its id
abbrev pub files_read : Parts → List Entry
files_read parts = entries_of 0 parts.names (lists_in parts)

abbrev pub paths_in : Parts → Paths
paths_in parts = set.from_list parts.paths

-- whether each name is covered by a path
unfoldable pub are_covered : Parts → Bool
are_covered parts = list_all (is_covered (paths_in parts)) parts.names

abbrev pub files_in : Parts → Files
files_in parts = map.from_entries (files_read parts)
