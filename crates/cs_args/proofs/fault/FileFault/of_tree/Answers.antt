use Rattle.std.proofs.Common.{rules}
use Rattle.cs_args.proofs.fault.FileFault.of_tree.Goals as goal

pub returns-in-Denied-clause-file : goal.returns-in-Denied-clause-file
returns-in-Denied-clause-file c = search rules

pub returns-in-Output-clause-file : goal.returns-in-Output-clause-file
returns-in-Output-clause-file c = search rules
