use Rattle.cs_tree.proofs.ReachabilityLemmas.{reachable_says}
use Rattle.cs_tree.proofs.laws.reachability_is_tested.Goals as goal

pub returns : goal.returns
returns c = reachable_says
