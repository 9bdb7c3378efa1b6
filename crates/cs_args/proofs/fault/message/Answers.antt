use Rattle.std.proofs.Common.{rules}
use Rattle.cs_args.proofs.fault.message.Goals as goal

pub returns : goal.returns
returns c = search rules
