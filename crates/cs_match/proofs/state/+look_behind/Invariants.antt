use Rattle.std.proofs.Common.{◌≡◌, drop}
use Rattle.cs_syntax.specs.Node.{tree_of}
use Rattle.cs_syntax.specs.NodeList.{trees_of}
use Rattle.cs_match.specs.LookBehind.{either, look_behind, look_behind_of}
use Rattle.cs_match.proofs.state.+look_behind.Given as goal

abbrev pub invariant-loop-part : goal.invariant-loop-part
invariant-loop-part l = either l.bits (look_behind_of (trees_of (drop l.part-index l.part-items)))
    ≡ look_behind (tree_of l.node)
