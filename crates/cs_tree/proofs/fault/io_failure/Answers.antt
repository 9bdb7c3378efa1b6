use Rattle.std.proofs.Common.{rules}
use Rattle.cs_tree.proofs.fault.io_failure.Goals as goal

pub returns-clause-counted : goal.returns-clause-counted
returns-clause-counted c = search rules
