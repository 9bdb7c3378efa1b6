use Rattle.std.proofs.Common.{rules}
use Rattle.cs_fakes.proofs.mem_tree.MemTreeTree.entries.Goals as goal

pub returns-clause-open : goal.returns-clause-open
returns-clause-open c = search rules

pub returns-clause-step : goal.returns-clause-step
returns-clause-step c = search rules
