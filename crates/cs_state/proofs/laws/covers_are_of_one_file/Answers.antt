use Rattle.cs_state.proofs.StampedLemmas.{one_cover}
use Rattle.cs_state.proofs.laws.covers_are_of_one_file.Goals as goal

pub returns : goal.returns
returns c = one_cover
