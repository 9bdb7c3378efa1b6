use Rattle.std.proofs.Common.{rules}
use Rattle.cs_args.proofs.fault.file_fault_text.Goals as goal

pub returns-in-Output : goal.returns-in-Output
returns-in-Output c = search rules
