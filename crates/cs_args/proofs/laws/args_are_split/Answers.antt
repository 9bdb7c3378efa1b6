use Rattle.cs_args.proofs.ArgSplitLemmas.{is_split}
use Rattle.cs_args.proofs.laws.args_are_split.Goals as goal

pub returns : goal.returns
returns c = is_split
