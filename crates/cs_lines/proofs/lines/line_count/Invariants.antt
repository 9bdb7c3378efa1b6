use Rattle.std.proofs.Common.{◌≡◌, ◌+◌, length}
use Rattle.cs_match.specs.Lines.{terminated_lines}
use Rattle.cs_lines.proofs.lines.line_count.Given as goal

abbrev pub invariant-parts : goal.invariant-parts
invariant-parts l = l.count + length (terminated_lines l.rest) ≡ length (terminated_lines l.block)

abbrev pub decreases-parts : goal.decreases-parts
decreases-parts l = length l.rest
