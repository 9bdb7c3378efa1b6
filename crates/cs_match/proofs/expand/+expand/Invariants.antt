use Rattle.std.proofs.Common.{◌≡◌, drop}
use Rattle.std.specs.Prelude.{if◌then◌else◌}
use Rattle.cs_syntax.specs.TreeList.{append}
use Rattle.cs_syntax.specs.Matching.{none}
use Rattle.cs_syntax.specs.Node.{tree_of}
use Rattle.cs_syntax.specs.NodeList.{trees_of}
use Rattle.cs_match.specs.Expansion.{expansion, expansions, copies, optional}
use Rattle.cs_match.proofs.expand.+expand.Given as goal

abbrev pub invariant-expand_all-loop-part : goal.invariant-expand_all-loop-part
invariant-expand_all-loop-part l =
    append (trees_of l.all.items) (expansions (trees_of (drop l.part-index l.parts))) ≡ expansions (trees_of l.parts)

abbrev pub invariant-add_copies-loop-k : goal.invariant-add_copies-loop-k
invariant-add_copies-loop-k l =
    let x = expansion (tree_of l.node) in
    trees_of l.parts.items ≡ append (trees_of l.fn.parts.items) (copies l.k (if l.are_optional then optional x else x) none)
