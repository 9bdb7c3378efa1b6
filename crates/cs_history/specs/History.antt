-- Histories: jobs over trees, one after another, and the index that they result in. Each job has its own tree, and
-- the trees are independent.
-- docs/PROMISES.md, "Histories".
use Rattle.std.specs.Prelude.{ℕ, nat_eq, if◌then◌else◌, List, [], ◌++◌, Option, Some, None}
use Rattle.cs_tree.specs.PathSet.{Paths}
use Rattle.std.specs.FinMap as map
use Rattle.cs_tree.specs.PathSet as set
use Rattle.cs_tree.specs.Cover.{is_covered, least}
use Rattle.cs_tree.specs.Snapshot.{Snapshot}
use Rattle.cs_tree.specs.Reachability.{reachable_files, with_values}
use Rattle.cs_trigram.specs.Text.{text_trigrams, limits}
use Rattle.cs_index.specs.Encoding.{Files, encoding}
use Rattle.cs_index.specs.OpenedParts.{Parts, paths_in, files_in}

-- An update: a job that walked, with its cleaned paths and the snapshot of its tree.
pub record Update : Type 0 where
  pub given : Paths
  pub tree : Snapshot

-- The updates that the index results from, the newest first, and what they started from: no index, or an existing
-- one, whoever wrote it. An existing index has its bytes and the parts that these open as. It counts as a first
-- update that was given its paths and read its trigram sets.
infixr 5 ◌⊳◌
pub data History : Type 0 where
  nothing : History
  existing : List ℕ → Parts → History
  ◌⊳◌ : Update → History → History

-- ---- the paths that remain

-- all paths that were given
abbrev pub all_given_paths : History → Paths
all_given_paths nothing = map.empty
all_given_paths (existing bytes parts) = paths_in parts
all_given_paths (update ⊳ before) = set.union (all_given_paths before) update.given

-- the paths of the index: those that no other path covers
abbrev pub paths_of : History → Paths
paths_of history = least (all_given_paths history)

-- the paths that a job walks: its own, or, if it has none, those of the index before it
abbrev pub walked_paths : Update → History → Paths
walked_paths update before = if nat_eq (map.len update.given) 0 then paths_of before else least update.given

-- ---- the text last read

-- what a job finds: the text files, with their trigrams
abbrev pub files_found : Update → History → Files
files_found update before = reachable_files (text_trigrams limits) update.tree (walked_paths update before)

-- the trigrams at a name: those that the latest job whose paths cover it found there, if it found any
abbrev pub kept_at : History → List ℕ → Option (List ℕ)
kept_at nothing name = None
kept_at (existing bytes parts) name = map.get (files_in parts) name
kept_at (update ⊳ before) name =
    if is_covered (walked_paths update before) name then map.get (files_found update before) name
    else kept_at before name

-- the names that some job found
abbrev pub names_found : History → List (List ℕ)
names_found nothing = []
names_found (existing bytes parts) = map.keys (files_in parts)
names_found (update ⊳ before) = map.keys (files_found update before) ++ names_found before

-- ---- the index

-- the files of the index: each name with the trigrams of the text that was last read there
abbrev pub files_of : History → Files
files_of history = map.from_entries (with_values (kept_at history) (names_found history))

-- The index that the jobs result in: the encoding, built at once, of the paths that remain and the files. It does not
-- depend on the index of an earlier job. Before any job it is the existing index, or none.
abbrev pub index_of : History → Option (List ℕ)
index_of nothing = None
index_of (existing bytes parts) = Some bytes
index_of (update ⊳ before) = Some (encoding (paths_of (update ⊳ before)) (files_of (update ⊳ before)))
