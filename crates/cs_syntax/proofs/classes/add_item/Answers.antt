use Rattle.std.proofs.Common.{sym}
use Rattle.std.proofs.lemmas.Result.{on_ok_weaker}
use Rattle.cs_syntax.specs.ClassSets.{is_in_item}
use Rattle.cs_syntax.proofs.CharRangeLemmas.{chars_added, adds_same, xor-true, xor-false}
use Rattle.cs_syntax.proofs.classes.add_item.Goals as goal

pub returns-in-Range : goal.returns-in-Range
unfolding is_in_item
returns-in-Range c = rw c.in-Range.is (on_ok_weaker c.add_folded.result (chars_added _ _ _) c.add_folded.ensures)

pub returns-then-negated : goal.returns-then-negated
unfolding is_in_item
returns-then-negated c =
    rw c.in-Named.is (rw c.if-negated.true (rw (← c.ranges_of.ensures)
    (on_ok_weaker c.add_others.result (adds_same _ _ _ _ (λ x. sym (xor-true _))) c.add_others.ensures)))

pub returns-else-negated : goal.returns-else-negated
unfolding is_in_item
returns-else-negated c =
    rw c.in-Named.is (rw c.if-negated.false (rw (← c.ranges_of-else-negated.ensures)
    (on_ok_weaker c.add_folded-else-negated.result (λ adds. adds_same _ _ _ _ (λ x. sym (xor-false _)) (chars_added _ _ _ adds))
    c.add_folded-else-negated.ensures)))
