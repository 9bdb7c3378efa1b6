use Rattle.cs_project.proofs.TextLemmas.{each_whole}
use Rattle.cs_project.proofs.laws.whole_items_are_printed.Goals as goal

pub returns : goal.returns
returns c = each_whole
