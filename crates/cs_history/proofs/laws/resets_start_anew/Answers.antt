use Rattle.cs_history.proofs.IndexLemmas.{index_at_start, index_none}
use Rattle.cs_history.proofs.laws.resets_start_anew.Goals as goal

pub returns : goal.returns
returns c = record { paths = index_at_start; bare = index_none }
