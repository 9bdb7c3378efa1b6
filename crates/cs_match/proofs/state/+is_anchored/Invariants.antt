use Rattle.std.proofs.Common.{◌≡◌, drop}
use Rattle.cs_syntax.specs.Node.{tree_of}
use Rattle.cs_syntax.specs.NodeList.{trees_of}
use Rattle.cs_match.specs.Anchored.{is_anchored, are_anchored}
use Rattle.cs_match.proofs.state.+is_anchored.Given as goal

abbrev pub invariant-loop-part : goal.invariant-loop-part
invariant-loop-part l = are_anchored (trees_of (drop l.part-index l.part-items)) ≡ is_anchored (tree_of l.node)
