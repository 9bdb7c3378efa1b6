use Rattle.std.proofs.Common.{rules}
use Rattle.cs_tree.proofs.mem_types.MemStore.new.Goals as goal

pub returns-clause-count : goal.returns-clause-count
returns-clause-count c = search rules
