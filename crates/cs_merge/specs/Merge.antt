-- The merge of an index with a newer one, which takes precedence at all names that its paths cover.
-- docs/PROMISES.md, "Merging"; index/merge.go, "Merge".
use Rattle.std.specs.Prelude.{not}
use Rattle.cs_tree.specs.PathSet.{Paths}
use Rattle.cs_tree.specs.NameOrder.{bytes_cmp}
use Rattle.std.specs.FinMap as map
use Rattle.cs_tree.specs.PathSet as set
use Rattle.cs_tree.specs.Cover.{is_covered, least}

-- the files of the newer index, and those of the old one whose names no newer path covers
abbrev pub merge_files : {X : Type 0} → Paths → map.FinMap bytes_cmp X → map.FinMap bytes_cmp X → map.FinMap bytes_cmp X
merge_files newer_paths old newer = set.union newer (map.retain_keys old (λ name. not (is_covered newer_paths name)))

-- the paths of both that no other path covers
abbrev pub merge_paths : Paths → Paths → Paths
merge_paths old newer = least (set.union old newer)
