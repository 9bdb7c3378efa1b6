use Rattle.std.proofs.Common.{◌≡◌}
use Rattle.cs_syntax.specs.NodeList.{trees_of}
use Rattle.cs_syntax.specs.Quoting.{atoms_of}
use Rattle.cs_syntax.proofs.node.Pattern.literal.Given as goal

-- the nodes of the characters so far
abbrev pub invariant-loop-c : goal.invariant-loop-c
invariant-loop-c l = trees_of l.atoms.items ≡ atoms_of l.fold l.yielded
