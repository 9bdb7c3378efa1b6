use Rattle.cs_search.proofs.JobIndexLemmas.{reads_at_once, met_at_once}
use Rattle.cs_search.proofs.laws.first_jobs_satisfy_the_premises.Goals as goal

pub returns : goal.returns
returns c = record { reads = reads_at_once; premises = met_at_once }
