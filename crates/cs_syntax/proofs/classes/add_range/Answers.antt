use Rattle.cs_syntax.proofs.CharRangeLemmas.{range_folded, range_unfolded}
use Rattle.cs_syntax.proofs.classes.add_range.Goals as goal

pub returns-then-fold : goal.returns-then-fold
returns-then-fold c =
    rw c.if-fold.true (range_folded c.args.ranges.now.items _ _ _ c.args.range c.in_ok-push.ensures.items
    c.in_ok-add_letters.ensures c.in_ok-add_letters-2.ensures)

pub returns : goal.returns
returns c = rw c.if-fold.false (range_unfolded c.args.ranges.now.items _ c.args.range c.in_ok-push.ensures.items)
