use Rattle.std.proofs.Common.{refl}
use Rattle.cs_prefilter.proofs.RunLemmas.{follow_set}
use Rattle.cs_prefilter.proofs.runs.Runs.add.Goals as goal

pub returns : goal.returns
returns c =
    follow_set c.args.set.now c.without_newline.result c.args.self.now _ c.without_newline.ensures c.in_ok-push.ensures.items
    refl refl refl c.before_set-self.ensures.before
