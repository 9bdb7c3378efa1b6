use Rattle.cs_state.proofs.StampedLemmas.{follows}
use Rattle.cs_state.proofs.laws.stamped_names_follow_paths.Goals as goal

pub returns : goal.returns
returns c = follows
