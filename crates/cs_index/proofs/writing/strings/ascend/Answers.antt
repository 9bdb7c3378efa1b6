use Rattle.std.proofs.Common.{◌∙◌}
use Rattle.cs_index.proofs.names.ReducedPaths.{last_up}
use Rattle.cs_index.proofs.writing.strings.ascend.Goals as goal

pub returns : goal.returns
returns c = last_up c.args.paths.now c.paths.at c.paths.invariant.some c.paths-test.false ∙ c.paths.invariant.left
