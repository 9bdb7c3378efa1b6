use Rattle.cs_match.proofs.BitwiseLemmas.{bits-set, bits-cleared}
use Rattle.cs_match.proofs.position_set.with_bits.Goals as goal

pub returns-then-on : goal.returns-then-on
returns-then-on c = λ i h. bits-set c.args.word c.args.bits i c.args.on c.if-on.true

pub returns-else-on : goal.returns-else-on
returns-else-on c = λ i h. bits-cleared c.args.word c.args.bits i c.args.on c.if-on.false
