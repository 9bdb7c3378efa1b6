use Rattle.std.proofs.Common.{◌≡◌, drop}
use Rattle.cs_syntax.specs.NodeList.{trees_of}
use Rattle.cs_match.specs.Expansion.{union_with, union_of}
use Rattle.cs_match.proofs.expand.union_of.Given as goal

abbrev pub invariant-loop-node : goal.invariant-loop-node
invariant-loop-node l = union_with l.union (trees_of (drop l.node-index l.others)) ≡ union_of (trees_of l.nodes)
