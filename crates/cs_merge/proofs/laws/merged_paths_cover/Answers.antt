use Rattle.cs_merge.proofs.MergeLemmas.{covered-merge_paths}
use Rattle.cs_merge.proofs.laws.merged_paths_cover.Goals as goal

pub returns : goal.returns
returns c = covered-merge_paths
