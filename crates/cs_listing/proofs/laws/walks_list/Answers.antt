use Rattle.cs_listing.proofs.WholeWalkLemmas.{walks_list as law}
use Rattle.cs_listing.proofs.laws.walks_list.Goals as goal

pub returns : goal.returns
returns c = law
