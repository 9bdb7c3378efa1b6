use Rattle.std.proofs.Common.{rules}
use Rattle.cs_tree.proofs.mem_streams.MemSinkSink.write.Goals as goal

pub returns-clause-bytes : goal.returns-clause-bytes
returns-clause-bytes c = search rules

pub returns-clause-fitting : goal.returns-clause-fitting
returns-clause-fitting c = search rules
