use Rattle.std.proofs.Common.{◌≡◌, map, take}
use Rattle.std.specs.Prelude.{string_bytes, filter}
use Rattle.cs_tree.specs.PathParts.{texts}
use Rattle.cs_tree.specs.Cover.{is_alone}
use Rattle.cs_tree.proofs.paths.paths_alone.Given as goal

-- the kept paths are those of the paths so far that no other one covers
abbrev pub invariant-loop-path : goal.invariant-loop-path
invariant-loop-path l = map string_bytes l.kept.items ≡ filter (is_alone (texts l.ordered)) (texts (take l.path-index l.ordered))
