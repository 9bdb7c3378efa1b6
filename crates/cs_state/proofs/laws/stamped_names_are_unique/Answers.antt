use Rattle.cs_state.proofs.StampedLemmas.{one_file}
use Rattle.cs_state.proofs.laws.stamped_names_are_unique.Goals as goal

pub returns : goal.returns
returns c = one_file
