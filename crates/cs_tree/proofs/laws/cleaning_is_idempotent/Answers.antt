use Rattle.cs_tree.proofs.NormalizedLemmas.{cleaned_is_normalized}
use Rattle.cs_tree.proofs.laws.cleaning_is_idempotent.Goals as goal

pub returns : goal.returns
returns c = cleaned_is_normalized
