use Rattle.std.proofs.Common.{map, sym, ap, ◌∙◌}
use Rattle.std.specs.Prelude.{string_bytes}
use Rattle.std.proofs.lemmas.Result.{err_from_is_err_and}
use Rattle.cs_command.specs.Patterns.{pattern_in}
use Rattle.cs_command.specs.Texts.{shown}
use Rattle.cs_command.proofs.StageLemmas.{and_then_ok, and_then_err}
use Rattle.cs_command.proofs.RequestLemmas.{asked}
use Rattle.cs_command.proofs.request.asked_pattern.Goals as goal

pub returns-in_err-pattern-clause-fault : goal.returns-in_err-pattern-clause-fault
returns-in_err-pattern-clause-fault c =
    let words = map string_bytes c.args.words.now in
    let p = err_from_is_err_and c.from_residual.result c.from_residual.ensures.1 in
    rw (p.1, p.2) (λ known.
    asked words c.args.switches.now c.args.case (shown c.args.texts.now) c.needs_pattern.result c.if-needs_pattern.true c.needs_pattern.ensures
    ∙ and_then_err _ _ _ (ap (pattern_in words c.args.switches.now.pattern c.args.case) (sym c.deref.ensures.value)
    ∙ c.in_err-pattern.ensures.fault known))

pub returns-in_ok-pattern-clause-pattern : goal.returns-in_ok-pattern-clause-pattern
returns-in_ok-pattern-clause-pattern c =
    let words = map string_bytes c.args.words.now in
    asked words c.args.switches.now c.args.case (shown c.args.texts.now) c.needs_pattern.result c.if-needs_pattern.true c.needs_pattern.ensures
    ∙ and_then_ok _ _ _ (ap (pattern_in words c.args.switches.now.pattern c.args.case) (sym c.deref.ensures.value)
    ∙ c.in_ok-pattern.ensures.pattern)
