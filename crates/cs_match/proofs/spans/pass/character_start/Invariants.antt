use Rattle.std.proofs.Common.{◌≤◌}
use Rattle.cs_match.proofs.spans.pass.character_start.Given as goal

abbrev pub invariant-loop-start : goal.invariant-loop-start
invariant-loop-start l = l.start ≤ l.fn.offset

abbrev pub decreases-loop-start : goal.decreases-loop-start
decreases-loop-start l = l.start
