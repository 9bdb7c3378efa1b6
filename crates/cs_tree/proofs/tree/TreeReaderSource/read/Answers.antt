use Rattle.std.proofs.Common.{rules}
use Rattle.cs_tree.proofs.tree.TreeReaderSource.read.Goals as goal

pub returns-in-Err : goal.returns-in-Err
returns-in-Err c = search rules
