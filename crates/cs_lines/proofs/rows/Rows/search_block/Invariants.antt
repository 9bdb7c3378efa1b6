use Rattle.std.proofs.Common.{◌≤◌, ◌+◌, ◌-◌, ◌*◌, length}
use Rattle.cs_lines.specs.Findings.{KeepsSearch, StopsBySpans}
use Rattle.cs_tree.specs.SinkOutputs.{Keeps, given}
use Rattle.cs_lines.specs.Scans.{Marks}
use Rattle.cs_lines.specs.Work.{Takes, line_weight, search_work, walks}
use Rattle.cs_lines.proofs.rows.Rows.search_block.Given as goal

abbrev pub invariant-lists : goal.invariant-lists
invariant-lists g l = record {
  marks : Marks l.fn.search l.search l.fn.self l.self (given l.fn.out) (given l.out) l.initial.place l.place l.offset;
  same : KeepsSearch l.fn.search l.search;
  budget : StopsBySpans l.fn.self.page.options.now.form l.fn.search l.search;
  work : Takes (search_work (line_weight l.fn.search) (l.offset - l.from) + walks l.fn.self.page.options.now * l.place.held) l.fn.search l.search;
  low : l.from ≤ l.offset;
  keeps : Keeps g.O.Sink.model g.O.Sink.failed l.fn.out l.out;
}

abbrev pub decreases-lists : goal.decreases-lists
decreases-lists g l = length l.block - l.offset
