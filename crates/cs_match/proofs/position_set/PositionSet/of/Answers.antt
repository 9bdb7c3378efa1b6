use Rattle.std.proofs.Common.{false, ext_get_or, arith}
use Rattle.cs_match.proofs.position_set.PositionSet.of.Goals as goal

pub returns : goal.returns
returns c =
    ext_get_or false c.loop-index.positions c.args.flags.now c.loop-index.invariant.as_many
    (λ k h. c.loop-index.invariant.same k (omega (arith, h, c.loop-index.invariant.as_many, c.loop-index-test.false)))
