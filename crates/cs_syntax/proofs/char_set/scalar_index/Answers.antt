use Rattle.std.proofs.Common.{rules}
use Rattle.cs_syntax.proofs.char_set.scalar_index.Goals as goal

pub returns : goal.returns
returns c = search rules
