use Rattle.std.proofs.Common.{arith}
use Rattle.std.proofs.lemmas.Grind.{common_steps}
use Rattle.cs_args.proofs.fault.skip_line.Goals as goal

pub returns : goal.returns
returns c = grind (arith, common_steps)
