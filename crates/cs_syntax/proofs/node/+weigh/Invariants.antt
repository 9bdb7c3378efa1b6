use Rattle.std.proofs.Common.{◌≡◌, ◌+◌, ◌≤◌, drop}
use Rattle.cs_syntax.specs.NodeList.{trees_of}
use Rattle.cs_syntax.specs.Weight.{max_weight, weights}
use Rattle.cs_syntax.proofs.node.+weigh.Given as goal

abbrev pub invariant-weigh_all-loop-part : goal.invariant-weigh_all-loop-part
invariant-weigh_all-loop-part l = (l.sum + weights (trees_of (drop l.part-index l.parts)) ≡ weights (trees_of l.parts))
    × (l.sum ≤ max_weight)
