use Rattle.cs_history.proofs.JobListLemmas.{followed-push}
use Rattle.cs_history.proofs.laws.jobs_follow_one_another.Goals as goal

pub returns : goal.returns
returns c = followed-push
