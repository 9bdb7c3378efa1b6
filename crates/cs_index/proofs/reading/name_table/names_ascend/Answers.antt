use Rattle.std.proofs.Common.{refl, sym, ap, ◌∙◌, arith}
use Rattle.std.specs.Ordering.{is_ge}
use Rattle.cs_tree.specs.NamesAscending.{are_ascending}
use Rattle.cs_index.proofs.names.SortedNames.{names_borrowed, pair_falls, pair_climbs, last_ascends}
use Rattle.cs_index.proofs.reading.name_table.names_ascend.Goals as goal

pub loop-at-init : goal.loop-at-init
loop-at-init c = refl

pub returns-then-is_ge : goal.returns-then-is_ge
returns-then-is_ge c =
    sym (ap are_ascending (names_borrowed c.args.named.now) ∙ c.loop-at.invariant
    ∙ pair_falls c.args.named.now c.loop-at.at _ c.loop-at.auto.at c.loop-at-test.true
    (ap is_ge (sym c.cmp.ensures) ∙ sym c.is_ge.ensures ∙ c.if-is_ge.true))

pub loop-at-preserved : goal.loop-at-preserved
loop-at-preserved c =
    c.loop-at.invariant
    ∙ pair_climbs c.args.named.now c.loop-at.at _ c.loop-at.auto.at c.loop-at-test.true
    (ap is_ge (sym c.cmp.ensures) ∙ sym c.is_ge.ensures ∙ c.if-is_ge.false)

pub returns : goal.returns
returns c =
    sym (ap are_ascending (names_borrowed c.args.named.now) ∙ c.loop-at.invariant
    ∙ last_ascends c.args.named.now c.loop-at.at (omega (arith, c.loop-at-test.false)))
