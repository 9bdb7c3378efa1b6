use Rattle.cs_history.proofs.JobLemmas.{given_clean, followed_history}
use Rattle.cs_history.proofs.laws.done_jobs_give_histories.Goals as goal

pub returns : goal.returns
returns c = record { paths = given_clean; followed = followed_history }
