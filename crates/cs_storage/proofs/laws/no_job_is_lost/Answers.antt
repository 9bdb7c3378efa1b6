use Rattle.cs_storage.proofs.ScheduleLemmas.{no_job_is_lost}
use Rattle.cs_storage.proofs.laws.no_job_is_lost.Goals as goal

pub returns : goal.returns
returns c = no_job_is_lost
