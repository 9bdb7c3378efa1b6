use Rattle.std.proofs.Common.{◌≡◌, Ok, false, refl, rules}
use Rattle.codesearch.specs.Program.{opened_file}
use Rattle.cs_cindex.specs.OldIndex.{IsIndex, has_failed}
use Rattle.cs_args.specs.declared.jobs.Job.TheVariants.{Index, Search, Grep}
use Rattle.codesearch.proofs.CallLemmas.{has_folder, runs_answered, runs_refused, runs_job, no_read_fails, ended_keeps, ended_given, if_ok, lists}
use Rattle.codesearch.proofs.running.run.Goals as goal

pub run_index-requires : goal.run_index-requires
run_index-requires g c =
    let is : c.args.call.now.job ≡ Ok (Index c.in-Ok-Index.job) = search rules in
    record { folder = has_folder c.args.call.now c.in-Ok-Index.job c.requires.call is }

pub returns-in-Ok-Index-clause-runs : goal.returns-in-Ok-Index-clause-runs
returns-in-Ok-Index-clause-runs g c =
    let is : c.args.call.now.job ≡ Ok (Index c.in-Ok-Index.job) = search rules in
    let file = c.args.file.now in (
      has_failed c.run_index.result,
      c.run_index.ensures.counted,
      runs_answered c.args.call.now (Index c.in-Ok-Index.job) file (IsIndex g.S.Store.model file.index) _ _
          c.run_index.result c.ended.result c.requires.call is c.run_index.ensures.answers c.ended.ensures,
    )

pub returns-in-Ok-Index-clause-unclaimed : goal.returns-in-Ok-Index-clause-unclaimed
returns-in-Ok-Index-clause-unclaimed g c = λ never.
    let is : c.args.call.now.job ≡ Ok (Index c.in-Ok-Index.job) = search rules in
    let list = lists c.args.call.now.job c.in-Ok-Index.job is never in
    ended_keeps _ c.run_index.result c.ended.result c.ended.ensures
    (if_ok c.run_index.result _ _ (λ outcome keeps. keeps list) c.run_index.ensures.unclaimed)

pub returns-in-Ok-Index-clause-given : goal.returns-in-Ok-Index-clause-given
returns-in-Ok-Index-clause-given g c =
    ended_given _ c.run_index.result c.ended.result _ _ c.ended.ensures c.run_index.ensures.given

pub returns-in-Ok-Search-clause-runs : goal.returns-in-Ok-Search-clause-runs
returns-in-Ok-Search-clause-runs g c =
    let is : c.args.call.now.job ≡ Ok (Search c.in-Ok-Search.job) = search rules in
    let file = c.args.file.now in (
      has_failed c.search_index.result,
      c.search_index.ensures.counted,
      runs_answered c.args.call.now (Search c.in-Ok-Search.job) file (IsIndex g.S.Store.model file.index) _ _
          c.search_index.result c.ended-in-Ok-Search.result c.requires.call is c.search_index.ensures.answers
          c.ended-in-Ok-Search.ensures,
    )

pub returns-in-Ok-Grep-clause-runs : goal.returns-in-Ok-Grep-clause-runs
returns-in-Ok-Grep-clause-runs g c =
    let is : c.args.call.now.job ≡ Ok (Grep c.in-Ok-Grep.job) = search rules in
    let file = c.args.file.now in (
      false,
      no_read_fails g.S.Store.failed file.index,
      runs_job c.args.call.now (Grep c.in-Ok-Grep.job) (opened_file file false) (IsIndex g.S.Store.model file.index) _ _
          c.search_files.result c.requires.call is refl refl (λ index known. c.search_files.ensures),
    )

pub returns-in-Err-clause-runs : goal.returns-in-Err-clause-runs
returns-in-Err-clause-runs g c =
    let file = c.args.file.now in (
      has_failed c.refuse.result,
      c.refuse.ensures.counted,
      runs_refused c.args.call.now c.in-Err.fault file (IsIndex g.S.Store.model file.index) _ c.refuse.result
          c.ended-in-Err.result c.requires.call c.in-Err.is c.refuse.ensures.refused c.ended-in-Err.ensures,
    )
