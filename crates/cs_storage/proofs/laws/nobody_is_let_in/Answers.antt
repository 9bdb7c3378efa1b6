use Rattle.cs_storage.proofs.RightsLemmas.{nobody_is_let_in}
use Rattle.cs_storage.proofs.laws.nobody_is_let_in.Goals as goal

pub returns : goal.returns
returns c = nobody_is_let_in
