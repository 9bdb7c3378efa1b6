use Rattle.cs_merge.proofs.MergeLemmas.{old_under}
use Rattle.cs_merge.proofs.laws.others_stay.Goals as goal

pub returns : goal.returns
returns c = old_under
