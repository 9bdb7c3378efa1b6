use Rattle.std.proofs.Common.{rules}
use Rattle.cs_match.proofs.state.State.end.Goals as goal

pub returns-clause-accepting : goal.returns-clause-accepting
returns-clause-accepting c = search rules
