use Rattle.std.proofs.Common.{rules}
use Rattle.cs_syntax.proofs.byte_set.ByteSet.has_one.Goals as goal

pub returns : goal.returns
returns c = search rules
