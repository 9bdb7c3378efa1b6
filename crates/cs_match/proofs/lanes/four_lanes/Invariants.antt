use Rattle.std.proofs.Common.{◌≡◌, ◌+◌}
use Rattle.cs_match.specs.Lanes.{IsLane}
use Rattle.cs_match.proofs.lanes.four_lanes.Given as goal

abbrev pub invariant-loop-i : goal.invariant-loop-i
invariant-loop-i l = record {
  from-a : l.a.from ≡ l.from;
  from-b : l.b.from ≡ l.to_a;
  from-c : l.c.from ≡ l.to_b;
  from-d : l.d.from ≡ l.to_c;
  a : IsLane l.table l.block (l.from + l.i) l.a l.p;
  b : IsLane l.table l.block (l.to_a + l.i) l.b l.q;
  c : IsLane l.table l.block (l.to_b + l.i) l.c l.r;
  d : IsLane l.table l.block (l.to_c + l.i) l.d l.s;
}
