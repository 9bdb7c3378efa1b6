use Rattle.std.proofs.Common.{◌≡◌, ◌++◌, drop}
use Rattle.cs_syntax.specs.Node.{tree_of}
use Rattle.cs_syntax.specs.NodeList.{trees_of}
use Rattle.cs_syntax.specs.Cuts.{range_cuts, char_ranges, all_char_ranges}
use Rattle.cs_syntax.proofs.char_step.+add_tree.Given as goal

abbrev pub invariant-loop-part : goal.invariant-loop-part
invariant-loop-part l =
    l.cuts.items ++ range_cuts (all_char_ranges (trees_of (drop l.part-index l.part-items))) ≡ l.fn.cuts.items
    ++ range_cuts (char_ranges (tree_of l.tree))
