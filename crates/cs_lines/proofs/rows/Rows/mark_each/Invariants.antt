use Rattle.std.proofs.Common.{◌≡◌, ◌≤◌, ◌-◌, ◌*◌}
use Rattle.cs_match.specs.Skipped.{AreLinesBetween}
use Rattle.cs_lines.specs.Findings.{KeepsSearch, listed_ends, StopsBySpans}
use Rattle.cs_tree.specs.SinkOutputs.{Keeps, given}
use Rattle.cs_lines.specs.Scans.{Marks}
use Rattle.cs_lines.specs.Work.{Takes, walks}
use Rattle.cs_lines.proofs.rows.Rows.mark_each.Given as goal

abbrev pub invariant-lines : goal.invariant-lines
invariant-lines g l = record {
  marks : Marks l.fn.search l.search l.fn.self l.self (given l.fn.out) (given l.out) l.fn.place l.place l.start;
  passed : AreLinesBetween l.fn.place.block.now l.part.start l.start;
  high : l.start ≤ l.part.end;
  listed : listed_ends l.search ≡ listed_ends l.fn.search;
  same : KeepsSearch l.fn.search l.search;
  budget : StopsBySpans l.fn.self.page.options.now.form l.fn.search l.search;
  work : Takes (walks l.fn.self.page.options.now * (l.place.held - l.fn.place.held)) l.fn.search l.search;
  keeps : Keeps g.O.Sink.model g.O.Sink.failed l.fn.out l.out;
}

abbrev pub decreases-lines : goal.decreases-lines
decreases-lines g l = l.part.end - l.start
