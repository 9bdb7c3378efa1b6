use Rattle.std.proofs.Common.{rules}
use Rattle.cs_tree.proofs.std_io.StdSinkSink.write.Goals as goal

pub returns-in-Ok-clause-some : goal.returns-in-Ok-clause-some
returns-in-Ok-clause-some c = search rules
