use Rattle.std.proofs.Common.{◌≡◌, ℕ, ◌<◌, length, get_or, false}
use Rattle.cs_match.proofs.position_set.PositionSet.of.Given as goal

abbrev pub invariant-loop-index : goal.invariant-loop-index
invariant-loop-index l = record {
  as_many : length l.positions ≡ length l.flags;
  same : (k : ℕ) → k < l.index → get_or l.positions k false ≡ get_or l.flags k false;
}
