use Rattle.std.proofs.Common.{◌≤◌}
use Rattle.cs_match.specs.Table.{IsRow}
use Rattle.cs_match.proofs.lanes.Table.undecided.Given as goal

abbrev pub invariant-loop-b : goal.invariant-loop-b
invariant-loop-b l = record {
  row : IsRow l.self l.number;
  few : l.count ≤ l.b-index;
}
