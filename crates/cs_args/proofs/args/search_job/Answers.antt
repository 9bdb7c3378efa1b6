use Rattle.std.proofs.Common.{◌∙◌, sym, subst, arith}
use Rattle.std.specs.Prelude.{map, string_bytes, Ok}
use Rattle.cs_args.specs.JobView.{search, GivesJob}
use Rattle.cs_args.specs.Args.{search_job as search_by}
use Rattle.cs_args.specs.declared.jobs.Job.TheVariants.{Search}
use Rattle.cs_args.proofs.ReadOptionsLemmas.{search_answer, one_item}
use Rattle.cs_args.proofs.args.search_job.Goals as goal

pub returns-in_ok-clone-in-len1 : goal.returns-in_ok-clone-in-len1
returns-in_ok-clone-in-len1 c items are =
    let settings = c.args.settings.now in
    let pattern = c.pattern-item.result in
    subst (λ rest. GivesJob (search_by c.args.all items (map string_bytes rest)) (Ok (Search (record {
      style = settings.style;
      fold = settings.fold;
      brute = settings.brute;
      file = c.in_ok-copy_of-in-len1.field-0;
      pattern = c.in_ok-clone-in-len1.field-0;
    }))))
    (sym (one_item c.args.rest.now pattern (omega arith) (omega arith) c.pattern-item.is))
    ((λ i. search settings.style settings.fold settings.brute (c.in_ok-copy_of-in-len1.ensures i) (c.in_ok-clone-in-len1.ensures.cases i))
    ∙ search_answer settings items (string_bytes pattern) are)
