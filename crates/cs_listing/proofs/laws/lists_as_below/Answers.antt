use Rattle.cs_listing.proofs.ListingLemmas.{lists_as_below as law}
use Rattle.cs_listing.proofs.laws.lists_as_below.Goals as goal

pub returns : goal.returns
returns c = law
