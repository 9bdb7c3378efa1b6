use Rattle.std.proofs.Common.{◌∙◌, arith}
use Rattle.std.proofs.lemmas.Result.{err_from_is_err_and}
use Rattle.cs_command.proofs.PatternLemmas.{no_line, next_line, bad_line, large_line}
use Rattle.cs_command.proofs.patterns.joined.Goals as goal

pub returns-in_err-other-clause-fault : goal.returns-in_err-other-clause-fault
returns-in_err-other-clause-fault c =
    let p = err_from_is_err_and c.from_residual.result c.from_residual.ensures.1 in
    rw (p.1, p.2) (λ known. c.patterns.invariant
    ∙ bad_line c.args.style c.args.fold c.patterns.all c.args.more.now c.patterns.line-index _ (omega (arith, c.patterns-test.true))
    c.in_err-other.field-0.0 (c.in_err-other.ensures.fault known))

pub returns-in_err-all-clause-fault : goal.returns-in_err-all-clause-fault
returns-in_err-all-clause-fault c =
    let p = err_from_is_err_and c.from_residual-in_err-all.result c.from_residual-in_err-all.ensures.1 in
    rw (p.1, p.2) (λ known. c.patterns.invariant
    ∙ large_line c.args.style c.args.fold c.patterns.all c.args.more.now c.patterns.line-index _ (omega (arith, c.patterns-test.true))
    c.in_ok-other.other c.in_err-all.field-0.0 c.in_ok-other.ensures.pattern (c.in_err-all.ensures.fault known))

pub patterns-preserved : goal.patterns-preserved
patterns-preserved c =
    c.patterns.invariant
    ∙ next_line c.args.style c.args.fold c.patterns.all c.args.more.now c.patterns.line-index _ (omega (arith, c.patterns-test.true))
    c.in_ok-other.other c.in_ok-all.all c.in_ok-other.ensures.pattern c.in_ok-all.ensures.pattern

pub returns-clause-pattern : goal.returns-clause-pattern
returns-clause-pattern c =
    c.patterns.invariant
    ∙ no_line c.args.style c.args.fold c.patterns.all c.args.more.now c.patterns.line-index (omega (arith, c.patterns-test.false))
