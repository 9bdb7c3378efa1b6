use Rattle.std.proofs.Common.{sym}
use Rattle.cs_history.proofs.IndexLemmas.{index_first}
use Rattle.cs_history.proofs.laws.first_job.Goals as goal

pub returns : goal.returns
returns c = λ update. sym (index_first update)
