use Rattle.cs_tree.proofs.CoverLemmas.{covers_says, covers_from}
use Rattle.cs_tree.proofs.laws.covering_is_tested.Goals as goal

pub returns : goal.returns
returns c = λ path name. (covers_says path name, covers_from path name)
