use Rattle.cs_lines.specs.Buffer.{pending_bytes}
use Rattle.cs_lines.proofs.buffer.LineBuffer.fill.Goals as goal

pub returns-clause-text : goal.returns-clause-text
unfolding pending_bytes
returns-clause-text g c = c.in_ok-n.ensures.text
