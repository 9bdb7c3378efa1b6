use Rattle.cs_history.proofs.JobListLemmas.{first_premises, existing_premises, later_premises}
use Rattle.cs_history.proofs.laws.calls_establish_premises.Goals as goal

pub returns : goal.returns
returns c = record { first = first_premises; start = existing_premises; next = later_premises }
