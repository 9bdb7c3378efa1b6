use Rattle.cs_listing.proofs.OrderLemmas.{gives_in_order as law}
use Rattle.cs_listing.proofs.laws.gives_in_order.Goals as goal

pub returns : goal.returns
returns c = law
