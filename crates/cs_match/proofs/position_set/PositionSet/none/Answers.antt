use Rattle.std.proofs.Common.{arith}
use Rattle.cs_match.proofs.PositionSetLemmas.{positions_of-zeros, IsPositionSet-zeros}
use Rattle.cs_match.proofs.position_set.PositionSet.none.Goals as goal

pub invariant_of-result : goal.invariant_of-result
invariant_of-result c = rw (c.in_ok-words.ensures.items_if_clones_equal (λ y e. e))
    (IsPositionSet-zeros _ _ (omega (arith, c.div_ceil.ensures)))

pub returns : goal.returns
returns c = rw (c.in_ok-words.ensures.items_if_clones_equal (λ y e. e)) (positions_of-zeros c.div_ceil.result c.args.count)
