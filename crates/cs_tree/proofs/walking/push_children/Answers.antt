use Rattle.std.proofs.Common.{arith}
use Rattle.std.proofs.lemmas.Grind.{common_steps}
use Rattle.cs_tree.proofs.walking.push_children.Goals as goal

pub names-preserved : goal.names-preserved
names-preserved c = grind (arith, common_steps)
