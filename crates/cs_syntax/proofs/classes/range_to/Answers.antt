use Rattle.std.proofs.Common.{rules}
use Rattle.cs_syntax.proofs.classes.range_to.Goals as goal

pub returns-then-high-low-clause-value : goal.returns-then-high-low-clause-value
returns-then-high-low-clause-value c = search rules

pub returns-else-high-low-clause-value : goal.returns-else-high-low-clause-value
returns-else-high-low-clause-value c = search rules
