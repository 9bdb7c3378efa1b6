use Rattle.std.proofs.Common.{refl, ◌∙◌, ◌++◌, ap, subst, sym}
use Rattle.cs_syntax.specs.Characters.{has_char}
use Rattle.cs_syntax.specs.CharRanges.{AreCanonical}
use Rattle.cs_syntax.proofs.CharSetLemmas.{joined_to, joined_all, Joins-near, Joins-far, Joins-end}
use Rattle.cs_syntax.proofs.char_set.merge_ranges.Goals.{then-scalar_index, else-scalar_index+in_ok-push}
use Rattle.cs_syntax.proofs.char_set.merge_ranges.Goals as goal

pub loop-range-init : goal.loop-range-init
loop-range-init c =
    let all = joined_all _ _ c.in-Some.ensures.value c.requires.ranges c.requires.ascending in
    (ap (λ xs. xs ++ joined_to c.in-Some.first.now c.args.ranges.now) c.new-maximal.ensures.items, all.0, all.1)

pub loop-range-preserved : goal.loop-range-preserved
loop-range-preserved c =
    elim c.if-scalar_index.branch [
      | then-scalar_index w ↦
          rw w.maximal-is (Joins-near _ _ _ _ _ _ _ _ _ _ c.loop-range.invariant c.loop-range-test.true refl c.scalar_index.ensures
          c.scalar_index-in-loop-range.ensures w.if-scalar_index.true w.max.ensures w.last-is)
      | else-scalar_index+in_ok-push w ↦
          rw w.maximal-is (Joins-far _ _ _ _ _ _ _ _ _ _ c.loop-range.invariant c.loop-range-test.true refl c.scalar_index.ensures
          c.scalar_index-in-loop-range.ensures w.if-scalar_index.false w.in_ok-push.ensures.items w.last-is)
    ]

pub returns-clause-ranges : goal.returns-clause-ranges
returns-clause-ranges c =
    let all = joined_all _ _ c.in-Some.ensures.value c.requires.ranges c.requires.ascending in
    let e = Joins-end _ _ _ _ _ _ c.loop-range.invariant c.loop-range-test.false c.in_ok-push-2.ensures.items in
    subst AreCanonical (sym e) all.2

pub returns-clause-members : goal.returns-clause-members
returns-clause-members c x =
    let all = joined_all _ _ c.in-Some.ensures.value c.requires.ranges c.requires.ascending in
    let e = Joins-end _ _ _ _ _ _ c.loop-range.invariant c.loop-range-test.false c.in_ok-push-2.ensures.items in
    ap (λ xs. has_char xs x) e ∙ all.3 x
