use Rattle.cs_tree.proofs.NormalizedLemmas.{cleaned_clean}
use Rattle.cs_tree.proofs.laws.cleaned_paths_are_clean.Goals as goal

pub returns : goal.returns
returns c = cleaned_clean
