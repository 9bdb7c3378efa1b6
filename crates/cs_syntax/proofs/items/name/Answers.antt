use Rattle.std.proofs.Common.{rules}
use Rattle.cs_syntax.proofs.items.name.Goals as goal

pub returns-clause-value : goal.returns-clause-value
returns-clause-value c = search rules
