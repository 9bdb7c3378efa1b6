use Rattle.std.proofs.Common.{◌≡◌, ◌++◌, drop}
use Rattle.cs_syntax.specs.Node.{tree_of}
use Rattle.cs_syntax.specs.NodeList.{trees_of}
use Rattle.cs_match.specs.Entered.{position_list, position_list_of}
use Rattle.cs_match.proofs.position.+add_positions.Given as goal

abbrev pub invariant-loop-part : goal.invariant-loop-part
invariant-loop-part l =
    l.positions.items ++ position_list_of (trees_of (drop l.part-index l.part-items)) ≡ l.fn.positions.items
    ++ position_list (tree_of l.node)
