use Rattle.cs_state.proofs.FormLemmas.{one_form}
use Rattle.cs_state.proofs.laws.lengths_are_unique.Goals as goal

pub returns : goal.returns
returns c = one_form
