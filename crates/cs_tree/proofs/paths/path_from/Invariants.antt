use Rattle.std.proofs.Common.{◌≡◌, take}
use Rattle.std.specs.Prelude.{reverse, string_bytes}
use Rattle.cs_tree.specs.Clean.{with_slashes}
use Rattle.cs_tree.specs.PathParts.{texts}
use Rattle.cs_tree.proofs.paths.path_from.Given as goal

-- the elements so far are joined
abbrev pub invariant-loop-element : goal.invariant-loop-element
invariant-loop-element l = string_bytes l.path ≡ with_slashes (reverse (texts (take l.element-index l.above)))
