use Rattle.std.proofs.Common.{◌∙◌}
use Rattle.std.specs.Prelude.{map, string_bytes}
use Rattle.cs_args.specs.JobView.{index}
use Rattle.cs_args.proofs.ReadOptionsLemmas.{index_answer}
use Rattle.cs_args.proofs.args.index_job.Goals as goal

pub returns : goal.returns
returns c items are =
    (λ i. index c.args.settings.now.list c.args.settings.now.reset c.args.settings.now.log_skip
    (c.in_ok-from_str.ensures.ok i) (c.in_ok-copies.ensures i))
    ∙ index_answer c.args.settings.now items c.args.cwd.now (map string_bytes c.args.paths.now) are
