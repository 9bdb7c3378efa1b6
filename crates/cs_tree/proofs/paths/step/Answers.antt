use Rattle.std.proofs.Common.{arith}
use Rattle.std.proofs.lemmas.Grind.{common_steps}
use Rattle.cs_tree.proofs.paths.step.Goals as goal

pub returns-then-eq : goal.returns-then-eq
returns-then-eq c = grind (arith, common_steps)

pub returns-in_ok-push : goal.returns-in_ok-push
returns-in_ok-push c = grind (arith, common_steps)
