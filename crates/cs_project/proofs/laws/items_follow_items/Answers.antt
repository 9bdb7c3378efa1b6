use Rattle.cs_project.proofs.TextLemmas.{shows_more}
use Rattle.cs_project.proofs.laws.items_follow_items.Goals as goal

pub returns : goal.returns
returns c = shows_more
