use Rattle.std.proofs.Common.{sym, subst, refl}
use Rattle.std.proofs.lemmas.List.{length-map}
use Rattle.std.specs.Prelude.{map, string_bytes, length}
use Rattle.std.proofs.lemmas.Result.{err_from_is_err_and}
use Rattle.cs_args.specs.Args.{parse_args, option_items, job_by}
use Rattle.cs_args.specs.JobView.{GivesJob}
use Rattle.cs_args.proofs.ReadOptionsLemmas.{parse_args-faulty, parse_args-sound, parse_args-memory, answer_job, answer_fault, answer_memory}
use Rattle.cs_args.proofs.args.read_words.Goals as goal

-- an error of the options is the error of the arguments
faulty : (c : goal.After-from_residual) →
    GivesJob (parse_args c.args.tool c.args.cwd.now (map string_bytes c.args.args.now)) c.from_residual.result
faulty c =
    let p = err_from_is_err_and c.from_residual.result c.from_residual.ensures.1 in
    rw (
      parse_args-faulty c.args.tool c.args.cwd.now (map string_bytes c.args.args.now) c.in_err-options.field-0.0
          c.in_err-options.ensures.fault,
      p.1,
      p.2,
    ) refl

-- otherwise it is the job
sound : (c : goal.After-make_job) → GivesJob (parse_args c.args.tool c.args.cwd.now (map string_bytes c.args.args.now)) c.make_job.result
sound c =
    let tool = c.args.tool in
    let cwd = c.args.cwd.now in
    let args = map string_bytes c.args.args.now in
    subst (λ parsed. GivesJob parsed c.make_job.result) (sym (parse_args-sound tool cwd args c.in_ok-options.ensures.sound))
    (subst (λ rest. GivesJob (job_by tool cwd (length args) (option_items tool args) rest) c.make_job.result) c.in_ok-options.ensures.rest
    (subst (λ all. GivesJob (job_by tool cwd all (option_items tool args)
    (map string_bytes c.in_ok-options.options.rest.now)) c.make_job.result)
    (sym (length-map c.args.args.now string_bytes))
    (c.make_job.ensures (option_items tool args) c.in_ok-options.ensures.settings)))

pub returns-in_err-options-clause-fault : goal.returns-in_err-options-clause-fault
returns-in_err-options-clause-fault c = answer_fault _ _ (faulty c)

pub returns-in_err-options-clause-memory : goal.returns-in_err-options-clause-memory
returns-in_err-options-clause-memory c = answer_memory _ _ (faulty c) (parse_args-memory _ _ _)

pub returns-clause-job : goal.returns-clause-job
returns-clause-job c = answer_job _ _ (sound c)

pub returns-clause-fault : goal.returns-clause-fault
returns-clause-fault c = answer_fault _ _ (sound c)

pub returns-clause-memory : goal.returns-clause-memory
returns-clause-memory c = answer_memory _ _ (sound c) (parse_args-memory _ _ _)
