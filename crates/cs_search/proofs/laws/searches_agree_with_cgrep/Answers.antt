use Rattle.cs_search.proofs.SearchLemmas.{agrees}
use Rattle.cs_search.proofs.laws.searches_agree_with_cgrep.Goals as goal

pub returns : goal.returns
returns c = agrees
