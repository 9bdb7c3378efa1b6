use Rattle.cs_learned.proofs.LaterLemmas.{later_searches}
use Rattle.cs_learned.proofs.laws.a_later_search_is_fresh.Goals as goal

pub returns : goal.returns
returns c = later_searches c.a_search_is_fresh.ensures
