use Rattle.std.proofs.Common.{rules}
use Rattle.cs_syntax.proofs.items.brace.Goals as goal

pub returns-in_default-clause-value : goal.returns-in_default-clause-value
returns-in_default-clause-value c = search rules
