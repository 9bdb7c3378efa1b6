use Rattle.std.proofs.Common.{rules}
use Rattle.cs_args.proofs.args.option_text.Goals as goal

pub returns-in-Some : goal.returns-in-Some
returns-in-Some c = search rules
