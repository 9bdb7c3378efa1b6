use Rattle.std.proofs.Common.{rules}
use Rattle.cs_fakes.proofs.mem_tree.MemTreeTree.open.Goals as goal

pub returns-in-Ok-clause-step : goal.returns-in-Ok-clause-step
returns-in-Ok-clause-step c = search rules
