use Rattle.std.proofs.Common.{◌≤◌, drop}
use Rattle.cs_match.specs.ConsistentDfa.{IsKnown}
use Rattle.cs_match.specs.Scanned.{HasScanned, PassesLines}
use Rattle.cs_match.proofs.dfa.LazyDfa.follow_known.Given as goal

abbrev pub invariant-loop-to : goal.invariant-loop-to
invariant-loop-to l = record {
  low : l.scan.to ≤ l.to;
  scanned : HasScanned l.self l.text (record { from = l.scan.from; to = l.to; number = l.number });
  known : IsKnown l.self l.scan.number (drop l.scan.to l.text) → IsKnown l.self l.number (drop l.to l.text);
  passes : PassesLines l.self.tree l.text l.scan (record { from = l.scan.from; to = l.to; number = l.number });
}
