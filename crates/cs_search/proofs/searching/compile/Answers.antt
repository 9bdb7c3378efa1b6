use Rattle.std.proofs.Common.{subst}
use Rattle.std.specs.Prelude.{string_bytes}
use Rattle.std.proofs.lemmas.Result.{err_from_is_err_and}
use Rattle.cs_syntax.specs.Parsing.{ParsesAs}
use Rattle.cs_syntax.specs.ParseErrors.{IsParseError}
use Rattle.cs_search.proofs.CgrepLemmas.{pattern_refused}
use Rattle.cs_search.proofs.searching.compile.Goals as goal

pub returns-in_err-pattern-clause-refused : goal.returns-in_err-pattern-clause-refused
returns-in_err-pattern-clause-refused c =
    let p = err_from_is_err_and c.from_residual.result c.from_residual.ensures.1 in
    let job = c.args.job.now in
    let error = c.in_err-pattern.field-0.0 in
    rw (p.1, p.2) (pattern_refused (string_bytes job.pattern) job.fold error
    (subst (λ text. IsParseError text job.fold error) c.as_str.ensures.value c.in_err-pattern.ensures.rejected))

pub returns-clause-compiled : goal.returns-clause-compiled
returns-clause-compiled c = (
  c.in_ok-pattern.pattern,
  subst (λ text. ParsesAs text c.args.job.now.fold c.in_ok-pattern.pattern) c.as_str.ensures.value c.in_ok-pattern.ensures.reads,
  c.in_ok-pattern.ensures.light,
  c.in_ok-program.ensures.alike,
)
