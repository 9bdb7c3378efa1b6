use Rattle.std.proofs.Common.{rules}
use Rattle.cs_tree.proofs.disk_tree.DiskTreeTree.read.Goals as goal

pub returns-clause-within : goal.returns-clause-within
returns-clause-within c = search rules
