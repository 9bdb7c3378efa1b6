use Rattle.std.proofs.Common.{◌≡◌, ◌+◌, ap, subst, sym, ◌∙◌}
use Rattle.cs_syntax.specs.Characters.{has_char}
use Rattle.cs_syntax.specs.CharRanges.{AreCanonical}
use Rattle.cs_syntax.proofs.CharSetLemmas.{gaps_from, all_gaps, LeavesGaps-at, LeavesGaps-gap, LeavesGaps-none, LeavesGaps-end, LeavesGaps-last}
use Rattle.cs_syntax.proofs.char_set.complement_ranges.Goals.{then-next-start+in_ok-push, else-next-start, then-next-lt-ALL+in_ok-push-2, else-next-lt-ALL}
use Rattle.cs_syntax.proofs.char_set.complement_ranges.Goals as goal

pub loop-range-preserved : goal.loop-range-preserved
loop-range-preserved c =
    let here = LeavesGaps-at _ _ _ _ _ c.loop-range.invariant c.loop-range-test.true in
    elim c.if-next-start.branch [
      | then-next-start+in_ok-push w ↦
          rw w.gaps-is (LeavesGaps-gap _ _ _ _ _ _ _ _ _ _ here.2 c.scalar_index-start.ensures w.if-next-start.true w.nth_scalar.ensures
          w.nth_scalar-then-next-start.ensures w.in_ok-push.ensures.items (ap (λ n. n + 1) c.scalar_index-next.ensures))
      | else-next-start w ↦
          rw w.gaps-is (LeavesGaps-none _ _ _ _ _ _ _ here.2 c.scalar_index-start.ensures w.if-next-start.false
          (ap (λ n. n + 1) c.scalar_index-next.ensures))
    ]

pub returns : goal.returns
returns c =
    let ranges = c.args.ranges.now in
    let whole : c.if-next-lt-ALL.gaps.items ≡ gaps_from 0 ranges =
    elim c.if-next-lt-ALL.branch [
      | then-next-lt-ALL+in_ok-push-2 w ↦
          rw w.gaps-is (LeavesGaps-end _ _ _ _ _ _ _ c.loop-range.invariant c.loop-range-test.false w.if-next-lt-ALL.true
          w.nth_scalar-then-next-lt-ALL.ensures w.in_ok-push-2.ensures.items)
      | else-next-lt-ALL w ↦
          rw w.gaps-is (LeavesGaps-last _ _ _ _ _ c.loop-range.invariant c.loop-range-test.false w.if-next-lt-ALL.false)
    ] in
    let all = all_gaps ranges c.requires in
    record { ranges = subst AreCanonical (sym whole) all.0; members = λ x. ap (λ xs. has_char xs x) whole ∙ all.1 x }
