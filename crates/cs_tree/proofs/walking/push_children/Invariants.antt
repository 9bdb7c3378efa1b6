use Rattle.std.proofs.Common.{◌≡◌, ◌++◌, map, take}
use Rattle.std.specs.Prelude.{string_bytes}
use Rattle.cs_tree.specs.WalkSteps.{children}
use Rattle.cs_tree.proofs.walking.push_children.Given as goal

-- the paths of the names so far are pending
abbrev pub invariant-names : goal.invariant-names
invariant-names l = map string_bytes l.pending.items ≡ map string_bytes l.initial.pending.items ++ children l.folder
    (map string_bytes (take l.name-index l.names))
