use Rattle.cs_match.proofs.PositionCountLemmas.{is_small}
use Rattle.cs_match.proofs.laws.programs_are_small.Goals as goal

pub returns : goal.returns
returns c = is_small
