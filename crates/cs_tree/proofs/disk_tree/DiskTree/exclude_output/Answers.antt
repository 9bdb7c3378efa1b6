use Rattle.std.proofs.Common.{rules}
use Rattle.cs_tree.proofs.disk_tree.DiskTree.exclude_output.Goals as goal

pub returns : goal.returns
returns c = search rules
