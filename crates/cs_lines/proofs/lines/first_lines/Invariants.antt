use Rattle.std.proofs.Common.{◌≡◌, ◌≤◌, length, take, drop}
use Rattle.cs_match.specs.Lines.{terminated_lines}
use Rattle.cs_match.specs.Skipping.{AreWholeLines}
use Rattle.cs_lines.proofs.lines.first_lines.Given as goal

abbrev pub invariant-lines : goal.invariant-lines
invariant-lines l = record {
  within : l.offset ≤ length l.block;
  whole : AreWholeLines (drop l.offset l.block);
  before : AreWholeLines (take l.offset l.block);
  rest : drop l.left (terminated_lines (drop l.offset l.block)) ≡ drop l.count (terminated_lines l.block);
}

abbrev pub decreases-lines : goal.decreases-lines
decreases-lines l = l.left
