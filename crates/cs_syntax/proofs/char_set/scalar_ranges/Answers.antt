use Rattle.std.proofs.Common.{refl, ◌∙◌, ap}
use Rattle.std.proofs.lemmas.List.{take_all}
use Rattle.cs_syntax.specs.Characters.{has_char}
use Rattle.cs_syntax.proofs.CharSetLemmas.{AreCut-range, AreCut-none}
use Rattle.cs_syntax.proofs.char_set.scalar_ranges.Goals.{then-range+in_ok-push, else-range}
use Rattle.cs_syntax.proofs.char_set.scalar_ranges.Goals as goal

pub loop-pair-preserved : goal.loop-pair-preserved
loop-pair-preserved c =
    elim c.if-range.branch [
      | then-range+in_ok-push w ↦
          rw w.ranges-is (AreCut-range _ _ _ _ _ _ _ c.loop-pair.invariant c.loop-pair-test.true refl c.scalar_ceil.ensures
          c.scalar_floor.ensures w.if-range.true w.in_ok-push.ensures.items)
      | else-range w ↦
          rw w.ranges-is (AreCut-none _ _ _ _ _ _ c.loop-pair.invariant c.loop-pair-test.true refl c.scalar_ceil.ensures
          c.scalar_floor.ensures w.if-range.false)
    ]

pub returns-clause-members : goal.returns-clause-members
returns-clause-members c x =
    c.loop-pair.invariant.1 x ∙ ap (λ rs. has_char rs x) (take_all _ _ c.loop-pair-test.false)
