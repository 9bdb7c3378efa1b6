-- Indexes of disjoint trees, as of two disks or machines.
-- docs/PROMISES.md, "Histories"; docs/USE.md, "Several indexes".
use Rattle.std.specs.Prelude.{◌≡◌, ℕ, Bool, false, List, filter}
use Rattle.std.specs.FinMap as map'
use Rattle.cs_tree.specs.PathSet as set
use Rattle.cs_tree.specs.PathSet.{Paths}
use Rattle.cs_tree.specs.Cover.{is_covered}
use Rattle.cs_trigram.specs.declared.queries.Query.{Query}
use Rattle.cs_index.specs.Encoding.{Files}
use Rattle.cs_merge.specs.Content.{EachFile, LieUnder}
use Rattle.cs_history.specs.MatchingFiles.{names_matching}

-- no path covers the name of a file
abbrev pub LieOutside : Paths → Files → Type 0
LieOutside paths files = EachFile (λ name trigrams. is_covered paths name ≡ false) files

-- The paths of each index cover its own names, and no name of the other one.
pub record AreShards (paths : Paths) (files : Files) (others : Paths) (other_files : Files) : Type 0 where
  pub under : LieUnder paths files
  pub outside : LieOutside others files
  pub other_under : LieUnder others other_files
  pub other_outside : LieOutside paths other_files

-- the files of both
abbrev pub files_of_both : Files → Files → Files
files_of_both files others = set.union files others

-- in the order of names, without duplicates
abbrev pub sorted_by_name : List (List ℕ) → List (List ℕ)
sorted_by_name names = set.items (set.from_list names)

-- the names that a search visits: those of the files that match the query, filtered, in their order
abbrev pub searched_names : Query → (List ℕ → Bool) → Files → List (List ℕ)
searched_names query keeps files = filter keeps (names_matching query (map'.entries files))
