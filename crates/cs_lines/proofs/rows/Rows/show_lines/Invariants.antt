use Rattle.std.proofs.Common.{◌≡◌, ◌≤◌, ◌+◌, ◌-◌, length, take, drop}
use Rattle.cs_match.specs.Lines.{terminated_lines}
use Rattle.cs_match.specs.Skipping.{AreWholeLines}
use Rattle.cs_lines.specs.Scans.{rows_at}
use Rattle.cs_lines.specs.Findings.{Finding}
use Rattle.cs_tree.specs.SinkOutputs.{Keeps, given}
use Rattle.cs_lines.specs.Spacing.{KeepsScan, printed_by, progress_of}
use Rattle.cs_lines.proofs.rows.Rows.show_lines.Given as goal

abbrev pub invariant-lines : goal.invariant-lines
invariant-lines g l = record {
  within : l.offset ≤ length l.block;
  whole : AreWholeLines (drop l.offset l.block);
  before : AreWholeLines (take l.offset l.block);
  room : l.next ≤ l.number + l.offset;
  few : l.left ≤ l.count;
  size : (l.count - l.left) + length (take l.left (terminated_lines (drop l.offset l.block))) ≡ length (take l.count (terminated_lines l.block));
  rest : drop l.left (terminated_lines (drop l.offset l.block)) ≡ drop l.count (terminated_lines l.block);
  rows : (finding : Finding) →
      printed_by l.fn.self.page finding (progress_of l.fn.self (given l.fn.out)) (rows_at l.number (take l.count (terminated_lines l.block)))
      ≡ printed_by l.self.page finding (progress_of l.self (given l.out)) (rows_at l.next (take l.left (terminated_lines (drop l.offset l.block))));
  page : l.self.page ≡ l.fn.self.page;
  scan : KeepsScan l.fn.self l.self;
  keeps : Keeps g.O.Sink.model g.O.Sink.failed l.fn.out l.out;
}

abbrev pub decreases-lines : goal.decreases-lines
decreases-lines g l = l.left
