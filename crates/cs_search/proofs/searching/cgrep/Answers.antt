use Rattle.std.proofs.Common.{Err, refl, sym, subst}
use Rattle.std.specs.Prelude.{string_bytes}
use Rattle.std.proofs.lemmas.Result.{err_from_is_err_and}
use Rattle.cs_tree.proofs.GrowsLemmas.{Grows-same}
use Rattle.cs_tree.specs.Sinks.{CountsOne}
use Rattle.cs_tree.specs.TakesPrefix.{EndsAfter}
use Rattle.cs_tree.specs.WritesBytes.{WritesBytes}
use Rattle.cs_args.specs.declared.fault.ToolFault.TheVariants.{Memory}
use Rattle.cs_search.specs.declared.status.Status.{Status}
use Rattle.cs_search.proofs.PrintedInputLemmas.{done, outputs_of, PrintsAnswer-prefix, PrintsFaults-flushed}
use Rattle.cs_search.proofs.CgrepLemmas.{all_silent, begun_silent, same_fault, grep_unsearched, grep_begun, decides_program, PrintsAnswer-ended, PrintsFaultsOf-as, ended_outputs}
use Rattle.cs_search.proofs.searching.cgrep.Goals as goal

-- the pattern has an error

pub returns-in_err-program-clause-searches : goal.returns-in_err-program-clause-searches
returns-in_err-program-clause-searches g c =
    let p = err_from_is_err_and c.from_residual.result c.from_residual.ensures.1 in
    rw (p.1, p.2) (grep_unsearched c.args.job.now (g.T.Tree.snapshot c.args.tree.now) (g.T.Tree.failed c.args.tree.now)
    (g.R.Source.model c.args.input.now) (g.R.Source.failed c.args.input.now) (g.O.Sink.model c.args.out.now)
    (g.E.Sink.model c.args.err.now) c.in_err-program.field-0.0 c.in_err-program.ensures.refused.0)

pub returns-in_err-program-clause-outputs : goal.returns-in_err-program-clause-outputs
returns-in_err-program-clause-outputs g c =
    let p = err_from_is_err_and c.from_residual.result c.from_residual.ensures.1 in
    let out = g.O.Sink.failed c.args.out.now in
    let err = g.E.Sink.failed c.args.err.now in
    rw (p.1, p.2) (tt, subst (λ fails. CountsOne fails out out err err) (sym c.in_err-program.ensures.refused.1) (refl, refl))

pub returns-in_err-program-clause-silent : goal.returns-in_err-program-clause-silent
returns-in_err-program-clause-silent g c =
    all_silent _ c.from_residual.result (((Grows-same _, Grows-same _), refl, refl), refl, refl)

-- there is no memory for the searcher

pub returns-in_err-searcher-clause-searches : goal.returns-in_err-searcher-clause-searches
returns-in_err-searcher-clause-searches g c =
    let p = err_from_is_err_and c.from_residual-in_err-searcher.result c.from_residual-in_err-searcher.ensures.1 in
    rw (p.1, p.2) (grep_unsearched c.args.job.now (g.T.Tree.snapshot c.args.tree.now) (g.T.Tree.failed c.args.tree.now)
    (g.R.Source.model c.args.input.now) (g.R.Source.failed c.args.input.now) (g.O.Sink.model c.args.out.now)
    (g.E.Sink.model c.args.err.now) Memory tt)

pub returns-in_err-searcher-clause-silent : goal.returns-in_err-searcher-clause-silent
returns-in_err-searcher-clause-silent g c =
    all_silent _ c.from_residual-in_err-searcher.result (((Grows-same _, Grows-same _), refl, refl), refl, refl)

-- the search fails

pub returns-in_err-matched-clause-searches : goal.returns-in_err-matched-clause-searches
returns-in_err-matched-clause-searches g c =
    let p = err_from_is_err_and c.from_residual-in_err-matched.result c.from_residual-in_err-matched.ensures.1 in
    let job = c.args.job.now in
    let program = c.in_ok-program.program in
    let is = c.in_ok-program.ensures.compiled in
    let e = c.in_err-matched.ensures in
    let fault = c.in_err-matched.field-0.0 in
    let out = g.O.Sink.model c.args.out.now in
    let out-now = g.O.Sink.model c.search_inputs.new.out in
    let err = g.E.Sink.model c.args.err.now in
    let err-now = g.E.Sink.model c.search_inputs.new.err in
    rw (p.1, p.2) (grep_begun job (g.T.Tree.snapshot c.args.tree.now) (g.T.Tree.failed c.args.tree.now)
    (g.T.Tree.failed c.search_inputs.new.tree) (g.R.Source.model c.args.input.now) (g.R.Source.model c.search_inputs.new.input)
    (g.R.Source.failed c.args.input.now) (g.R.Source.failed c.search_inputs.new.input) (outputs_of out out-now err err-now)
    (Err fault) (is.0, is.1, is.2) (same_fault fault e.counts.1) c.search_inputs.ensures.loses
    (λ has_match tests. PrintsAnswer-prefix _ fault out out-now err err-now
    (e.prints has_match (
      program,
      c.in_ok-searcher.ensures.lines,
      decides_program (string_bytes job.pattern) job.fold program has_match is tests,
    )))
    e.faults)

pub returns-in_err-matched-clause-silent : goal.returns-in_err-matched-clause-silent
returns-in_err-matched-clause-silent g c =
    let p = err_from_is_err_and c.from_residual-in_err-matched.result c.from_residual-in_err-matched.ensures.1 in
    rw (p.1, p.2) (begun_silent {A = Status} _ (Err c.in_err-matched.field-0.0) (same_fault c.in_err-matched.field-0.0 c.in_err-matched.ensures.counts.1))

-- the outputs are flushed

pub returns-clause-searches : goal.returns-clause-searches
returns-clause-searches g c =
    let job = c.args.job.now in
    let program = c.in_ok-program.program in
    let is = c.in_ok-program.ensures.compiled in
    let e = c.in_ok-matched.ensures in
    let f = c.finish.ensures in
    let out = g.O.Sink.model c.args.out.now in
    let out-now = g.O.Sink.model c.search_inputs.new.out in
    let out-later = g.O.Sink.model c.finish.new.out in
    let err = g.E.Sink.model c.args.err.now in
    let err-now = g.E.Sink.model c.search_inputs.new.err in
    let err-later = g.E.Sink.model c.finish.new.err in
    grep_begun job (g.T.Tree.snapshot c.args.tree.now) (g.T.Tree.failed c.args.tree.now)
    (g.T.Tree.failed c.search_inputs.new.tree) (g.R.Source.model c.args.input.now) (g.R.Source.model c.search_inputs.new.input)
    (g.R.Source.failed c.args.input.now) (g.R.Source.failed c.search_inputs.new.input) (outputs_of out out-later err err-later)
    c.finish.result (is.0, is.1, is.2) f.counts.1 c.search_inputs.ensures.loses
    (λ has_match tests. PrintsAnswer-ended out out-now out-later err err-now err-later _ c.in_ok-matched.matched c.finish.result
    (e.prints has_match (
      program,
      c.in_ok-searcher.ensures.lines,
      decides_program (string_bytes job.pattern) job.fold program has_match is tests,
    ))
    f.out f.err f.status)
    (PrintsFaultsOf-as job _ _ _ _ (λ lines. WritesBytes lines err err-now done) (λ lines. EndsAfter lines err err-later c.finish.result)
    (λ tool names failed failed' faults. PrintsFaults-flushed tool c.finish.result names failed failed' err err-now err-later
    faults f.err) e.faults)

pub returns-clause-silent : goal.returns-clause-silent
returns-clause-silent g c = begun_silent _ c.finish.result c.finish.ensures.counts.1

pub returns-clause-outputs : goal.returns-clause-outputs
returns-clause-outputs g c =
    let f = c.finish.ensures in
    ended_outputs g.O.Sink.model g.O.Sink.failed g.E.Sink.model g.E.Sink.failed c.args.out.now c.search_inputs.new.out
    c.finish.new.out c.args.err.now c.search_inputs.new.err c.finish.new.err c.finish.result
    c.in_ok-matched.ensures.counts.0 f.out f.err f.counts.0
