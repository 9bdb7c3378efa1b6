use Rattle.std.proofs.Common.{◌≡◌, ◌<◌, ℕ, suc, false, drop, length}
use Rattle.cs_syntax.specs.Node.{tree_of}
use Rattle.cs_syntax.specs.NodeList.{trees_of}
use Rattle.cs_match.specs.ByteClasses.{begins_at, HaveBoth, AllHaveBoth}
use Rattle.cs_match.proofs.byte_classes.+mark_sets.Given as goal

abbrev pub invariant-loop-part : goal.invariant-loop-part
invariant-loop-part l = record {
  bytes : length l.begins ≡ length l.fn.begins;
  kept : (b : ℕ) → begins_at l.begins b ≡ false → begins_at l.fn.begins b ≡ false;
  alike : (b : ℕ) → suc b < 256 → begins_at l.begins (suc b) ≡ false →
      AllHaveBoth (trees_of (drop l.part-index l.part-items)) b (suc b) → HaveBoth (tree_of l.node) b (suc b);
}
