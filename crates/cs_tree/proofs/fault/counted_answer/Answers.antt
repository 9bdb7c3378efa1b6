use Rattle.std.proofs.Common.{rules}
use Rattle.cs_tree.proofs.fault.counted_answer.Goals as goal

pub returns-2-clause-failed : goal.returns-2-clause-failed
returns-2-clause-failed g c = search rules
