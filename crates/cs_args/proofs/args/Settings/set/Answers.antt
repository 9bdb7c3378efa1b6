use Rattle.std.proofs.Common.{rules}
use Rattle.cs_args.proofs.args.Settings.set.Goals as goal

pub returns-in-File : goal.returns-in-File
returns-in-File c = search rules
