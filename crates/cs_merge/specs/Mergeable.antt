-- Which indexes can be merged, and the merged index.
-- docs/PROMISES.md, "Merging".
use Rattle.std.specs.Prelude.{◌≡◌, ℕ, Bool, true, ◌&&◌, List}
use Rattle.cs_tree.specs.Folders.{are_distinct}
use Rattle.cs_tree.specs.NamesAscending.{are_ascending}
use Rattle.cs_index.specs.Encoding.{encoding}
use Rattle.cs_index.specs.OpenedParts.{Parts, are_covered, are_whole, files_in, paths_in}
use Rattle.cs_merge.specs.Merge.{merge_files, merge_paths}

-- the names of both strictly ascend
abbrev pub both_ascend : Parts → Parts → Bool
both_ascend old newer = are_ascending old.names && are_ascending newer.names

-- no name occurs twice in either index
abbrev pub both_distinct : Parts → Parts → Bool
both_distinct old newer = are_distinct old.names && are_distinct newer.names

-- no list of either index is damaged
abbrev pub both_whole : Parts → Parts → Bool
both_whole old newer = are_whole old && are_whole newer

-- The checks that come before any list is read.
pub record AreTested (old newer : Parts) : Type 0 where
  pub distinct : both_distinct old newer ≡ true
  pub covered : are_covered newer ≡ true

-- Two indexes that can be merged.
pub record AreMergeable (old newer : Parts) : Type 0 where
  pub tested : AreTested old newer
  pub whole : both_whole old newer ≡ true

-- the encoding of the merged content
abbrev pub merge_index : Parts → Parts → List ℕ
merge_index old newer =
    encoding (merge_paths (paths_in old) (paths_in newer)) (merge_files (paths_in newer) (files_in old) (files_in newer))
