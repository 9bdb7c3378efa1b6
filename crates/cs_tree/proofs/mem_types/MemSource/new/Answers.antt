use Rattle.std.proofs.Common.{rules}
use Rattle.cs_tree.proofs.mem_types.MemSource.new.Goals as goal

pub returns-clause-model : goal.returns-clause-model
returns-clause-model c = search rules
