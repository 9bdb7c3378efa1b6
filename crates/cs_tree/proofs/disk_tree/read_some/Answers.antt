use Rattle.std.proofs.Common.{rules}
use Rattle.cs_tree.proofs.disk_tree.read_some.Goals as goal

pub returns-in-Err-2-clause-fault : goal.returns-in-Err-2-clause-fault
returns-in-Err-2-clause-fault g c = search rules
