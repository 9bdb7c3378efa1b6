use Rattle.std.proofs.Common.{◌≡◌}
use Rattle.cs_match.specs.Lanes.{IsLane}
use Rattle.cs_match.proofs.lanes.Lane.scan.Given as goal

abbrev pub invariant-loop-at : goal.invariant-loop-at
invariant-loop-at l = record {
  from : l.self.from ≡ l.fn.self.from;
  lane : IsLane l.table l.block l.at l.self l.ends;
}
