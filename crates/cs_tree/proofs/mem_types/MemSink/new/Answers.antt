use Rattle.std.proofs.Common.{rules}
use Rattle.cs_tree.proofs.mem_types.MemSink.new.Goals as goal

pub returns-clause-room : goal.returns-clause-room
returns-clause-room c = search rules
