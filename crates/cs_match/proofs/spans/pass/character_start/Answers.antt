use Rattle.std.proofs.Common.{◌∙◌, sym, ◌-◌}
use Rattle.cs_match.proofs.SpanLemmas.{anew}
use Rattle.cs_match.proofs.spans.pass.character_start.Goals as goal

pub returns-then-not-is_continuation-clause-before : goal.returns-then-not-is_continuation-clause-before
returns-then-not-is_continuation-clause-before c = λ _ t.
    anew t c.args.line.now (c.loop-start.start - 1) (sym c.is_continuation.ensures ∙ c.if-not-is_continuation.true)
