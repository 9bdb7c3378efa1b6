use Rattle.cs_match.proofs.RangeLemmas.{high-bits}
use Rattle.cs_match.proofs.position_set.bits_from.Goals as goal

pub returns-then-from-lt64 : goal.returns-then-from-lt64
returns-then-from-lt64 c = λ i h. high-bits c.args.word c.args.from i h
