use Rattle.std.proofs.Common.{◌∙◌, sym, subst, ap}
use Rattle.std.proofs.lemmas.List.{length-map}
use Rattle.std.specs.Prelude.{map, string_bytes, Ok, ◌==◌}
use Rattle.cs_args.specs.JobView.{grep, GivesJob}
use Rattle.cs_args.specs.Args.{grep_job as grep_by}
use Rattle.cs_args.specs.declared.jobs.Job.TheVariants.{Grep}
use Rattle.cs_args.proofs.ReadOptionsLemmas.{grep_answer}
use Rattle.cs_args.proofs.args.grep_job.Goals as goal

pub returns-in_ok-copies-in-Some : goal.returns-in_ok-copies-in-Some
returns-in_ok-copies-in-Some c items are =
    let settings = c.args.settings.now in
    let pattern = c.in-Some.pattern.now in
    let files = c.in-Some.files.now in
    subst (λ rest. GivesJob (grep_by items (map string_bytes rest)) (Ok (Grep (record {
      style = settings.style;
      fold = settings.fold;
      pattern = c.in_ok-clone-in-Some.field-0;
      standard = c.is_empty.result;
      files = c.in_ok-copies-in-Some.field-0;
    }))))
    (sym c.in-Some.ensures.cases.0)
    ((λ i. grep settings.style settings.fold (c.in_ok-clone-in-Some.ensures.cases i)
    ((c.is_empty.ensures ∙ ap (λ count. count == 0) (sym (length-map files string_bytes))) i)
    (c.in_ok-copies-in-Some.ensures i))
    ∙ grep_answer settings items (string_bytes pattern) (map string_bytes files) are)
