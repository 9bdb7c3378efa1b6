use Rattle.std.proofs.Common.{refl, map, Err}
use Rattle.std.specs.Prelude.{string_bytes}
use Rattle.std.proofs.lemmas.Result.{err_from_is_err_and}
use Rattle.cs_tree.proofs.GrowsLemmas.{Grows-same}
use Rattle.cs_search.proofs.CgrepLemmas.{begun_silent, same_fault, PrintsAnswer-ended, ended_outputs}
use Rattle.cs_search.specs.declared.status.Status.{Status}
use Rattle.cs_search.proofs.PrintedInputLemmas.{outputs_of, PrintsAnswer-prefix, PrintsFaults-flushed}
use Rattle.cs_search.proofs.SearchLemmas.{out_of_memory, searches_selected}
use Rattle.cs_search.proofs.stored.PlannedJob.run.Goals as goal

-- there is no memory for the searcher
pub returns-in_err-searcher-clause-searches : goal.returns-in_err-searcher-clause-searches
returns-in_err-searcher-clause-searches g c = λ bytes selected.
    let p = err_from_is_err_and c.from_residual.result c.from_residual.ensures.1 in
    let failed = g.T.Tree.failed c.args.tree.now in
    let out = g.O.Sink.model c.args.out.now in
    let err = g.E.Sink.model c.args.err.now in
    rw (p.1, p.2) (out_of_memory c.args.self.now.job.now bytes (g.T.Tree.snapshot c.args.tree.now) failed failed
    (outputs_of out out err err) (Grows-same out, Grows-same err) refl)

-- ---- the search fails

pub returns-in_err-matched-clause-searches : goal.returns-in_err-matched-clause-searches
returns-in_err-matched-clause-searches g c = λ bytes selected.
    let p = err_from_is_err_and c.from_residual-in_err-matched.result c.from_residual-in_err-matched.ensures.1 in
    let e = c.in_err-matched.ensures in
    let fault = c.in_err-matched.field-0.0 in
    let searcher = c.in_ok-searcher.searcher in
    let is = c.in_ok-searcher.ensures in
    let out = g.O.Sink.model c.args.out.now in
    let out-now = g.O.Sink.model c.search_files.new.out in
    let err = g.E.Sink.model c.args.err.now in
    let err-now = g.E.Sink.model c.search_files.new.err in
    rw (p.1, p.2) (searches_selected c.args.self.now.job.now c.args.self.now.plan.now c.requires bytes c.args.names.now selected
    (g.T.Tree.snapshot c.args.tree.now) (g.T.Tree.failed c.args.tree.now) (g.T.Tree.failed c.search_files.new.tree)
    (outputs_of out out-now err err-now) (Err fault) c.matching_is_decidable.ensures searcher.tool searcher.style
    is.tool is.style (same_fault fault e.counts.1)
    (λ has_match decides. PrintsAnswer-prefix _ fault out out-now err err-now
    (e.prints has_match (c.args.self.now.plan.now.program, is.lines, decides)))
    e.faults)

pub returns-in_err-matched-clause-silent : goal.returns-in_err-matched-clause-silent
returns-in_err-matched-clause-silent g c =
    let p = err_from_is_err_and c.from_residual-in_err-matched.result c.from_residual-in_err-matched.ensures.1 in
    rw (p.1, p.2) (begun_silent {A = Status} _ (Err c.in_err-matched.field-0.0) (same_fault c.in_err-matched.field-0.0 c.in_err-matched.ensures.counts.1))

-- ---- the outputs are flushed

pub returns-clause-searches : goal.returns-clause-searches
returns-clause-searches g c = λ bytes selected.
    let e = c.in_ok-matched.ensures in
    let f = c.finish.ensures in
    let searcher = c.in_ok-searcher.searcher in
    let is = c.in_ok-searcher.ensures in
    let out = g.O.Sink.model c.args.out.now in
    let out-now = g.O.Sink.model c.search_files.new.out in
    let out-later = g.O.Sink.model c.finish.new.out in
    let err = g.E.Sink.model c.args.err.now in
    let err-now = g.E.Sink.model c.search_files.new.err in
    let err-later = g.E.Sink.model c.finish.new.err in
    searches_selected c.args.self.now.job.now c.args.self.now.plan.now c.requires bytes c.args.names.now selected
    (g.T.Tree.snapshot c.args.tree.now) (g.T.Tree.failed c.args.tree.now) (g.T.Tree.failed c.search_files.new.tree)
    (outputs_of out out-later err err-later) c.finish.result c.matching_is_decidable.ensures searcher.tool searcher.style
    is.tool is.style f.counts.1
    (λ has_match decides. PrintsAnswer-ended out out-now out-later err err-now err-later _ c.in_ok-matched.matched c.finish.result
    (e.prints has_match (c.args.self.now.plan.now.program, is.lines, decides)) f.out f.err f.status)
    (PrintsFaults-flushed searcher.tool c.finish.result (map string_bytes c.args.names.now) (g.T.Tree.failed c.args.tree.now)
    (g.T.Tree.failed c.search_files.new.tree) err err-now err-later e.faults f.err)

pub returns-clause-silent : goal.returns-clause-silent
returns-clause-silent g c = begun_silent _ c.finish.result c.finish.ensures.counts.1

pub returns-clause-outputs : goal.returns-clause-outputs
returns-clause-outputs g c =
    let f = c.finish.ensures in
    ended_outputs g.O.Sink.model g.O.Sink.failed g.E.Sink.model g.E.Sink.failed c.args.out.now c.search_files.new.out
    c.finish.new.out c.args.err.now c.search_files.new.err c.finish.new.err c.finish.result
    c.in_ok-matched.ensures.counts.0 f.out f.err f.counts.0
