use Rattle.cs_update.proofs.UpdateLemmas.{left_states_are_learned}
use Rattle.cs_update.proofs.laws.states_that_runs_leave_are_learned.Goals as goal

pub returns : goal.returns
returns c = left_states_are_learned
