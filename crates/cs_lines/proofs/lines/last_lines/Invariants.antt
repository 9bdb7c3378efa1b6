use Rattle.std.proofs.Common.{◌≡◌, ◌≤◌, ◌+◌, length, take, drop}
use Rattle.cs_match.specs.Lines.{terminated_lines}
use Rattle.cs_match.specs.Skipping.{AreWholeLines}
use Rattle.cs_lines.proofs.lines.last_lines.Given as goal

abbrev pub invariant-lines : goal.invariant-lines
invariant-lines l = record {
  within : l.start ≤ length l.block;
  whole : AreWholeLines (take l.start l.block);
  lines : l.left + length (terminated_lines (drop l.start l.block)) ≡ l.count;
}

abbrev pub decreases-lines : goal.decreases-lines
decreases-lines l = l.left
