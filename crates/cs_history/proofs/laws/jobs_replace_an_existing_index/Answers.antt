use Rattle.cs_history.proofs.JobLemmas.{done_by_jobs, later_by_jobs}
use Rattle.cs_history.proofs.laws.jobs_replace_an_existing_index.Goals as goal

pub returns : goal.returns
returns c = record { done = done_by_jobs; later = later_by_jobs }
