use Rattle.std.proofs.Common.{rules}
use Rattle.cs_tree.proofs.std_io.counted_call.Goals as goal

pub returns-in-Err-clause-answer : goal.returns-in-Err-clause-answer
returns-in-Err-clause-answer g c = search rules

pub returns-in-Err-clause-failed : goal.returns-in-Err-clause-failed
returns-in-Err-clause-failed g c = search rules
