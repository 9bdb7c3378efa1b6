use Rattle.std.proofs.Common.{rules}
use Rattle.cs_syntax.proofs.items.is_bad.Goals as goal

pub returns-in-None : goal.returns-in-None
returns-in-None c = search rules

pub returns-else-most-gt-MAX_REPEAT : goal.returns-else-most-gt-MAX_REPEAT
returns-else-most-gt-MAX_REPEAT c = search rules
