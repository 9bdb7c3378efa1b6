use Rattle.std.proofs.Common.{arith}
use Rattle.std.proofs.lemmas.Grind.{common_steps}
use Rattle.cs_lines.specs.Buffer.{pending_bytes}
use Rattle.cs_lines.proofs.buffer.LineBuffer.move_to_start.Goals as goal

pub returns-clause-same : goal.returns-clause-same
unfolding pending_bytes
returns-clause-same c = grind (arith, common_steps)
