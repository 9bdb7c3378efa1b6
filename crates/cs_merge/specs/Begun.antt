-- The merged index before its lists.
-- docs/PROMISES.md, "Merging".
use Rattle.std.specs.Prelude.{◌≡◌, ℕ, List, []}
use Rattle.cs_tree.specs.PathSet as set
use Rattle.cs_tree.specs.Cover.{is_covered}
use Rattle.cs_index.specs.OpenedParts.{Parts, paths_in}
use Rattle.cs_index.specs.Written.{Written}
use Rattle.cs_merge.specs.IdMap.{NewIds, AreMergedNames}
use Rattle.cs_merge.specs.Merge.{merge_paths}
use Rattle.cs_merge.specs.Mergeable.{AreTested}

-- the index has these paths, and no names and no lists yet
abbrev pub IsBegunWith : List (List ℕ) → Written → Type 0
IsBegunWith paths begun = (begun.paths ≡ paths) × (begun.names ≡ []) × (begun.lists ≡ []) × (begun.sent ≡ [])

-- Both indexes pass the tests. The paths and the names are the merged ones, and the maps have the new ids.
pub record IsBegun (old newer : Parts) (begun : Written) (older_ids newer_ids : NewIds) : Type 0 where
  pub tested : AreTested old newer
  pub paths : begun.paths ≡ set.items (merge_paths (paths_in old) (paths_in newer))
  pub named : AreMergedNames (is_covered (paths_in newer)) old.names newer.names begun.names older_ids newer_ids
