use Rattle.std.proofs.Common.{◌≡◌, ◌+◌, ◌∙◌, ap, subst, inl, inr, ℕ, arith}
use Rattle.std.proofs.lemmas.Bool.{cases_lt}
use Rattle.cs_syntax.specs.CharSteps.{finished, unfinished_after}
use Rattle.cs_syntax.specs.declared.char_step.Unfinished.{Unfinished}
use Rattle.std.specs.Prelude.{slice_index}
use Rattle.cs_match.specs.Glushkov.{char_step_of, unfinished_before}
use Rattle.cs_match.proofs.SpanLemmas.{unfinished_more}
use Rattle.cs_match.proofs.spans.pass.unfinished_before.Goals as goal

pub loop-index-preserved : goal.loop-index-preserved
loop-index-preserved c =
    let t = c.args.program.now in
    let s = c.args.line.now in
    let i = c.loop-index.index in
    let from = c.character_start-from.result in
    let after : Unfinished → Unfinished = λ at. unfinished_after (char_step_of t at (slice_index s i)) in
    let moved = c.unfinished-unfinished.ensures ∙ ap unfinished_after c.char_step.ensures in
    record {
      first = λ h. absurd (omega (arith, h, c.loop-index.auto.index));
      later = λ _. elim (cases_lt from i) [
        | inl lt ↦ moved ∙ ap after (c.loop-index.invariant.later lt) ∙ unfinished_more t s i
        | inr le ↦
            let same : from ≡ i = omega (arith, le, c.loop-index.auto.index) in
            let P : ℕ → Type 0 = λ k. unfinished_after (char_step_of t finished (slice_index s k)) ≡ unfinished_before t s (k + 1) in
            moved ∙ ap after (c.loop-index.invariant.first le) ∙ subst P same (c.character_start-from.ensures.before (omega (arith, le, c.loop-index-test.true, c.loop-index.auto.index)) t)
      ];
    }
