use Rattle.cs_state.proofs.StampedLemmas.{ascends}
use Rattle.cs_state.proofs.laws.stamped_names_ascend.Goals as goal

pub returns : goal.returns
returns c = ascends
