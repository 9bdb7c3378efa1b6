use Rattle.std.proofs.Common.{rules}
use Rattle.cs_tree.proofs.paths.clean_parts.Goals as goal

pub returns-clause-answer : goal.returns-clause-answer
returns-clause-answer c = search rules
