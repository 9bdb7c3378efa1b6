use Rattle.std.proofs.Common.{◌≡◌, ◌+◌, ◌≤◌, drop}
use Rattle.cs_syntax.specs.Matching.{cat, alt, more}
use Rattle.cs_syntax.specs.TreeList.{append}
use Rattle.cs_syntax.specs.NodeList.{trees_of}
use Rattle.cs_match.specs.Glushkov.{position_count, position_count_of}
use Rattle.cs_match.specs.Parts.{shape_of, shapes_of, size_of, sizes_of, HaveSameShape}
use Rattle.cs_match.specs.Size.{nodes_of}
use Rattle.cs_match.proofs.parts.+part_of.Given as goal

abbrev pub invariant-sequence_of-loop-node : goal.invariant-sequence_of-loop-node
invariant-sequence_of-loop-node l =
    let rest = trees_of (drop l.node-index l.others) in
    record {
      same : HaveSameShape (cat (trees_of l.nodes)) (cat (append (shapes_of l.parts.items) (more (shape_of l.last) rest)));
      size : (sizes_of l.parts.items + size_of l.last) + nodes_of rest ≤ nodes_of (trees_of l.nodes);
      total : (position_count_of (shapes_of l.parts.items) + position_count (shape_of l.last)) + position_count_of rest
          ≡ position_count_of (trees_of l.nodes);
    }

abbrev pub invariant-alternation_of-loop-node : goal.invariant-alternation_of-loop-node
invariant-alternation_of-loop-node l =
    let rest = trees_of (drop l.node-index l.nodes) in
    record {
      same : HaveSameShape (alt (trees_of l.nodes)) (alt (append (shapes_of l.parts.items) rest));
      size : sizes_of l.parts.items + nodes_of rest ≤ nodes_of (trees_of l.nodes);
      total : position_count_of (shapes_of l.parts.items) + position_count_of rest ≡ position_count_of (trees_of l.nodes);
    }
