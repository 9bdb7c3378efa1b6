use Rattle.cs_match.proofs.DecidabilityLemmas.{matching_is_decidable}
use Rattle.cs_match.proofs.laws.matching_is_decidable.Goals as goal

pub returns : goal.returns
returns c = matching_is_decidable
