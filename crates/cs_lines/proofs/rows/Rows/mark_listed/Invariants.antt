use Rattle.std.proofs.Common.{◌≡◌, ◌≤◌, ◌+◌, ◌-◌, ◌*◌, Bool, List, ℕ, drop}
use Rattle.cs_match.specs.MatchingEnds.{matching_ends}
use Rattle.cs_match.specs.Skipped.{AreLinesBetween}
use Rattle.cs_lines.specs.Findings.{KeepsSearch, TestsMatches, listed_ends, StopsBySpans}
use Rattle.cs_tree.specs.SinkOutputs.{Keeps, given}
use Rattle.cs_lines.specs.Scans.{Marks}
use Rattle.cs_lines.specs.Work.{Takes, walks}
use Rattle.cs_lines.proofs.rows.Rows.mark_listed.Given as goal

abbrev pub invariant-loop-k : goal.invariant-loop-k
invariant-loop-k g l = record {
  marks : Marks l.fn.search l.search l.fn.self l.self (given l.fn.out) (given l.out) l.fn.place l.place l.offset;
  passed : AreLinesBetween l.fn.place.block.now l.part.start l.offset;
  high : l.offset ≤ l.part.end;
  rest : (test : List ℕ → Bool) → TestsMatches test l.fn.search →
      drop l.k (listed_ends l.fn.search) ≡ matching_ends test l.fn.place.block.now l.offset l.part.end;
  listed : listed_ends l.search ≡ listed_ends l.fn.search;
  same : KeepsSearch l.fn.search l.search;
  budget : StopsBySpans l.fn.self.page.options.now.form l.fn.search l.search;
  work : Takes (l.part.end - l.part.start + walks l.fn.self.page.options.now * (l.place.held - l.fn.place.held)) l.fn.search l.search;
  keeps : Keeps g.O.Sink.model g.O.Sink.failed l.fn.out l.out;
}
