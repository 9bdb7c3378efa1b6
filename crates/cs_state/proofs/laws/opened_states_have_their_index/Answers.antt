use Rattle.cs_state.proofs.FormLemmas.{opened_index}
use Rattle.cs_state.proofs.laws.opened_states_have_their_index.Goals as goal

pub returns : goal.returns
returns c = opened_index
