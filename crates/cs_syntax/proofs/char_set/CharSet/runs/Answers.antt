use Rattle.std.proofs.Common.{rules}
use Rattle.cs_syntax.proofs.char_set.CharSet.runs.Goals as goal

pub returns-clause-runs : goal.returns-clause-runs
returns-clause-runs c = search rules
