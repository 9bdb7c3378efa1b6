use Rattle.std.proofs.Common.{ap, ◌∙◌}
use Rattle.cs_tree.specs.Cover.{is_absolute}
use Rattle.cs_project.proofs.PathLemmas.{clean_absolute}
use Rattle.cs_project.proofs.paths.step.Goals as goal

pub returns-in-Ok-clause-absolute : goal.returns-in-Ok-clause-absolute
returns-in-Ok-clause-absolute g c = ap is_absolute c.in-Ok.ensures.ok ∙ clean_absolute c.args.path.now c.args.name.now
