use Rattle.std.proofs.Common.{arith}
use Rattle.cs_lines.specs.Buffer.{pending_bytes}
use Rattle.cs_lines.proofs.BufferLemmas.{slice_skip, pending_size}
use Rattle.cs_lines.proofs.buffer.LineBuffer.skip.Goals as goal

pub returns-clause-pending : goal.returns-clause-pending
unfolding pending_bytes
returns-clause-pending c =
    let buffer = c.args.self.now in
    slice_skip buffer.bytes.items buffer.start buffer.end c.args.n (omega (arith, c.requires, pending_size buffer))
