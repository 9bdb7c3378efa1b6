-- The content of an index: a set of paths, and a map from names to trigram sets.
-- docs/FORMAT.md, "The index as it is written" and "The index as it is read".
use Rattle.std.specs.Prelude.{◌≡◌, ℕ, true, List, Some, Ok}
use Rattle.cs_tree.specs.PathSet.{Paths}
use Rattle.cs_tree.specs.NamesAscending.{are_ascending}
use Rattle.cs_trigram.specs.TrigramSets.{IsTrigramSet}
use Rattle.std.specs.FinMap as map
use Rattle.cs_tree.specs.PathSet as set
use Rattle.cs_tree.specs.Cover.{is_covered}
use Rattle.cs_index.specs.Encoding.{Files, IsString}
use Rattle.cs_index.specs.Opening.{opening as opened_as}
use Rattle.cs_index.specs.OpenedParts.{Parts, are_whole, paths_in, files_in}
use Rattle.cs_index.specs.Decoding.{DecodesAs}

-- ---- what an index can hold

-- the predicate holds for each file of the map
abbrev pub EachFile : (List ℕ → List ℕ → Type 0) → Files → Type 0
EachFile IsSo files = (name trigrams : List ℕ) → map.get files name ≡ Some trigrams → IsSo name trigrams

-- Content that an index can hold: paths and names are strings, and each file has a trigram set.
pub record IsContent (paths : Paths) (files : Files) : Type 0 where
  pub paths_are : (path : List ℕ) → set.contains paths path ≡ true → IsString path
  pub names_are : EachFile (λ name trigrams. IsString name) files
  pub sets_are : EachFile (λ name trigrams. IsTrigramSet trigrams) files

-- some path covers the name of each file
abbrev pub LieUnder : Paths → Files → Type 0
LieUnder paths files = EachFile (λ name trigrams. is_covered paths name ≡ true) files

-- ---- what bytes decode as

-- The parts have these paths and files, ascending names and no damaged list.
pub record HasContent (parts : Parts) (paths : Paths) (files : Files) : Type 0 where
  pub paths_are : paths_in parts ≡ paths
  pub files_are : files_in parts ≡ files
  pub ascend : are_ascending parts.names ≡ true
  pub whole : are_whole parts ≡ true

-- The bytes decode as parts that have these paths and files.
pub record DecodesAsContent (bytes : List ℕ) (paths : Paths) (files : Files) : Type 0 where
  pub parts : Parts
  pub decodes : DecodesAs bytes parts
  pub has : HasContent parts paths files

-- The bytes open as an index that has these paths and files.
pub record Opens (bytes : List ℕ) (paths : Paths) (files : Files) : Type 0 where
  pub parts : Parts
  pub opened : opened_as bytes ≡ Ok parts
  pub has : HasContent parts paths files
