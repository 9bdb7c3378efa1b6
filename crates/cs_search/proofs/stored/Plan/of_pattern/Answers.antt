use Rattle.std.proofs.Common.{refl}
use Rattle.std.specs.Prelude.{string_bytes}
use Rattle.std.proofs.lemmas.Result.{err_from_is_err_and}
use Rattle.cs_trigram.specs.declared.queries.Query.TheVariants.{All}
use Rattle.cs_search.proofs.CsearchLemmas.{file_second, right_query}
use Rattle.cs_search.proofs.stored.Plan.of_pattern.Goals as goal

pub returns-in_err-file-clause-refused : goal.returns-in_err-file-clause-refused
returns-in_err-file-clause-refused c =
    let p = err_from_is_err_and c.from_residual-in_err-file.result c.from_residual-in_err-file.ensures.1 in
    rw (p.1, p.2) (λ index. file_second c.args.job.now index c.in_err-file.field-0.0
    (c.args.pattern.now, c.requires.reads, c.requires.light) c.in_err-file.ensures.refused)

pub returns-in_err-query-clause-refused : goal.returns-in_err-query-clause-refused
returns-in_err-query-clause-refused c =
    let p = err_from_is_err_and c.from_residual.result c.from_residual.ensures.1 in
    rw (p.1, p.2) (λ index. (All, tt, refl))

pub returns-clause-plan : goal.returns-clause-plan
returns-clause-plan c =
    let job = c.args.job.now in
    let pattern = c.args.pattern.now in
    record {
      query = right_query job.brute c.in_ok-query.query (string_bytes job.pattern) job.fold pattern c.requires.reads
          c.in_ok-query.ensures;
      program = (pattern, c.requires.reads, c.requires.light, c.in_ok-program.ensures.alike);
      file = c.in_ok-file.ensures.compiled;
    }
