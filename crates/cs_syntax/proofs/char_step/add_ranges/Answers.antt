use Rattle.std.proofs.Common.{get_or, arith}
use Rattle.cs_syntax.proofs.CharSetLemmas.{canonical_range_at, scalar_cases}
use Rattle.cs_syntax.proofs.CutLemmas.{range_pushed}
use Rattle.cs_syntax.proofs.char_step.add_ranges.Goals as goal

pub overflow_add-range : goal.overflow_add-range
overflow_add-range c =
    let range = get_or c.args.ranges.now c.loop-range.range-index (0, 0) in
    let is = canonical_range_at 0 c.args.ranges.now c.loop-range.range-index c.requires c.loop-range-test.true in
    let last = is.2 in
    grind (arith, scalar_cases range.1)

pub loop-range-preserved : goal.loop-range-preserved
loop-range-preserved c =
    range_pushed _ _ _ _ c.args.ranges.now c.loop-range.range-index c.loop-range-test.true c.loop-range.invariant
    c.in_ok-push.ensures.items c.in_ok-push-2.ensures.items
