use Rattle.std.proofs.Common.{rules}
use Rattle.cs_match.proofs.state.State.begin.Goals as goal

pub returns-clause-start : goal.returns-clause-start
returns-clause-start c = search rules
