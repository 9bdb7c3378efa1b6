use Rattle.cs_history.proofs.IndexLemmas.{no_index, no_job}
use Rattle.cs_history.proofs.laws.no_index_without_a_job.Goals as goal

pub returns : goal.returns
returns c = λ history. (no_index history, no_job history)
