use Rattle.std.proofs.Common.{◌≡◌, Ok, refl, rules}
use Rattle.codesearch.specs.Execution.{IsReadIndex}
use Rattle.cs_args.specs.declared.jobs.Job.TheVariants.{Grep}
use Rattle.cs_args.specs.declared.jobs.Tool.TheVariants.{Cgrep}
use Rattle.codesearch.proofs.CallLemmas.{runs_job, refuses_words, searched_keeps, refused_keeps, has_grep_job, untouched}
use Rattle.codesearch.proofs.ExecutionLemmas.{executes_cgrep, grep_file}
use Rattle.codesearch.proofs.execution.execute_cgrep.Goals as goal

pub returns-in-Ok-Grep : goal.returns-in-Ok-Grep
returns-in-Ok-Grep g c = λ name temp folder failed.
    let call = c.args.call.now in
    let is : call.job ≡ Ok (Grep c.in-Ok-Grep.job) = search rules in
    let does = c.search_files.ensures in
    executes_cgrep call name temp folder failed _ _ c.search_files.result c.requires.tool
    (searched_keeps Cgrep does.0 c.search_files.result does.1)
    (runs_job call (Grep c.in-Ok-Grep.job) (grep_file name temp) (IsReadIndex call.tool folder) _ _
    c.search_files.result c.requires.call is refl refl (λ index known. does))

pub returns-in-Err : goal.returns-in-Err
returns-in-Err g c = λ name temp folder failed.
    let call = c.args.call.now in
    let fault = c.in-Err.fault in
    executes_cgrep call name temp folder failed _ _ c.refused.result c.requires.tool
    (refused_keeps call fault c.refused.result c.refused.ensures)
    (refuses_words call fault (grep_file name temp) (IsReadIndex call.tool folder) _ _ c.refused.result
    c.requires.call c.in-Err.is refl c.refused.ensures (untouched _))

pub unreachable-requires : goal.unreachable-requires
unreachable-requires g c =
    let job = has_grep_job c.args.call.now c.in-Ok-Index.field-0 c.requires.call c.requires.tool c.in-Ok-Index.is in
    search rules
