use Rattle.cs_update.proofs.UpdateLemmas.{updates_keep_learned}
use Rattle.cs_update.proofs.laws.an_update_keeps_what_was_learned.Goals as goal

pub returns : goal.returns
returns c = updates_keep_learned
