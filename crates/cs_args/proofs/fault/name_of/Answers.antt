use Rattle.std.proofs.Common.{rules}
use Rattle.cs_args.proofs.fault.name_of.Goals as goal

pub returns-in-Csearch : goal.returns-in-Csearch
returns-in-Csearch c = search rules
