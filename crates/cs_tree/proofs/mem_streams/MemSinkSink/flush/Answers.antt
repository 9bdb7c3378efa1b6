use Rattle.std.proofs.Common.{rules}
use Rattle.cs_tree.proofs.mem_streams.MemSinkSink.flush.Goals as goal

pub returns-clause-bytes : goal.returns-clause-bytes
returns-clause-bytes c = search rules
