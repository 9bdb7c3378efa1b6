use Rattle.std.proofs.Common.{◌≡◌, ◌+◌, drop}
use Rattle.cs_syntax.specs.Node.{tree_of}
use Rattle.cs_syntax.specs.NodeList.{trees_of}
use Rattle.cs_match.specs.Glushkov.{repeats, repeats_of}
use Rattle.cs_match.proofs.glushkov.+count_repeats.Given as goal

abbrev pub invariant-loop-part : goal.invariant-loop-part
invariant-loop-part l = l.n + repeats_of (trees_of (drop l.part-index l.part-items)) ≡ repeats (tree_of l.node)
