use Rattle.std.proofs.Common.{◌≡◌, ◌≤◌, ◌*◌, length, replicate}
use Rattle.cs_match.specs.LazyDfa.{most_rows}
use Rattle.cs_match.specs.Work.{words}
use Rattle.cs_match.proofs.dfa.LazyDfa.new.Given as goal

abbrev pub invariant-loop-slot : goal.invariant-loop-slot
invariant-loop-slot l = record {
  all : l.cached.items ≡ replicate l.slot l.scratch;
  few : l.slot ≤ 5;
  most : l.cached.most ≡ most_rows l.classes.count (words (length l.scratch.positions));
  more : 6 ≤ l.cached.most;
  fits : l.cached.most * l.classes.count ≤ 65536;
  sized : l.cached.positions ≡ length l.scratch.positions;
}
