use Rattle.cs_syntax.proofs.CharRangeLemmas.{folded_more, folded_all}
use Rattle.cs_syntax.proofs.classes.add_folded.Goals as goal

pub loop-range-preserved : goal.loop-range-preserved
loop-range-preserved c = folded_more c.args.fold _ _ _ c.args.more.now c.loop-range.range-index c.loop-range-test.true
    c.loop-range.invariant c.in_ok-add_range.ensures

pub returns : goal.returns
returns c = folded_all c.args.fold _ _ c.args.more.now c.loop-range.range-index c.loop-range-test.false c.loop-range.invariant
