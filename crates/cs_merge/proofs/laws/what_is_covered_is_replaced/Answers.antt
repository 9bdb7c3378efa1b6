use Rattle.cs_merge.proofs.MergeLemmas.{files_replaced, paths_replaced}
use Rattle.cs_merge.proofs.ReplacedLemmas.{index_replaced}
use Rattle.cs_merge.proofs.laws.what_is_covered_is_replaced.Goals as goal

pub returns : goal.returns
returns c = record { paths = paths_replaced; files = files_replaced; index = index_replaced }
