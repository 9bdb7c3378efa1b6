use Rattle.cs_search.proofs.JobIndexLemmas.{opens_whole, never_refused}
use Rattle.cs_search.proofs.laws.indexes_of_jobs_are_accepted.Goals as goal

pub returns : goal.returns
returns c = record {
  whole = opens_whole;
  accepted = λ job history bytes query answer left accepted refused. never_refused history bytes left job query answer accepted refused;
}
