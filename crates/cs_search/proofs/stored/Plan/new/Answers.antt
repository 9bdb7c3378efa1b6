use Rattle.std.proofs.Common.{subst}
use Rattle.std.proofs.lemmas.Result.{err_from_is_err_and}
use Rattle.cs_syntax.specs.Parsing.{ParsesAs}
use Rattle.cs_syntax.specs.ParseErrors.{IsParseError}
use Rattle.cs_search.proofs.CsearchLemmas.{pattern_first}
use Rattle.cs_search.proofs.stored.Plan.new.Goals as goal

pub returns-in_err-pattern-clause-refused : goal.returns-in_err-pattern-clause-refused
returns-in_err-pattern-clause-refused c =
    let p = err_from_is_err_and c.from_residual.result c.from_residual.ensures.1 in
    let job = c.args.job.now in
    let error = c.in_err-pattern.field-0.0 in
    rw (p.1, p.2) (λ index. pattern_first job index error
    (subst (λ text. IsParseError text job.fold error) c.as_str.ensures.value c.in_err-pattern.ensures.rejected))

pub of_pattern-requires-clause-reads : goal.of_pattern-requires-clause-reads
of_pattern-requires-clause-reads c =
    subst (λ text. ParsesAs text c.args.job.now.fold c.in_ok-pattern.pattern) c.as_str.ensures.value c.in_ok-pattern.ensures.reads
