use Rattle.cs_merge.proofs.MergeLemmas.{newer_at}
use Rattle.cs_merge.proofs.laws.newer_wins.Goals as goal

pub returns : goal.returns
returns c = newer_at
