use Rattle.std.proofs.Common.{rules}
use Rattle.cs_args.proofs.args.parse_bool.Goals as goal

pub returns-in-text-7 : goal.returns-in-text-7
returns-in-text-7 c = search rules
