use Rattle.std.proofs.Common.{rules}
use Rattle.cs_fakes.proofs.fuse_tree.FuseTree.blows.Goals as goal

pub returns-clause-blows : goal.returns-clause-blows
returns-clause-blows c = search rules
