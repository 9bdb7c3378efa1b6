use Rattle.cs_state.proofs.FormLemmas.{sealed_form}
use Rattle.cs_state.proofs.laws.sealed_states_have_the_form.Goals as goal

pub returns : goal.returns
returns c = sealed_form
