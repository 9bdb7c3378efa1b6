use Rattle.cs_history.proofs.MergedHistoryLemmas.{merge_kept, merge_paths_of}
use Rattle.cs_history.proofs.laws.merging_keeps.Goals as goal

pub returns : goal.returns
returns c = record { files = merge_kept; paths = merge_paths_of }
