use Rattle.std.proofs.Common.{sym}
use Rattle.cs_history.proofs.IndexLemmas.{index_merged}
use Rattle.cs_history.proofs.laws.one_job_more.Goals as goal

pub returns : goal.returns
returns c = λ before update. sym (index_merged before update)
