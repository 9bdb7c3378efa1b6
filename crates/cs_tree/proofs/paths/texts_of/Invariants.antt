use Rattle.std.proofs.Common.{◌≡◌, map, take}
use Rattle.std.specs.Prelude.{string_bytes}
use Rattle.cs_tree.specs.PathParts.{texts}
use Rattle.cs_tree.proofs.paths.texts_of.Given as goal

-- the texts so far are those of the paths so far
abbrev pub invariant-loop-path : goal.invariant-loop-path
invariant-loop-path l = texts l.lent.items ≡ map string_bytes (take l.path-index l.paths)
