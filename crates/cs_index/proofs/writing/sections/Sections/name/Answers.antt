use Rattle.std.proofs.Common.{rules}
use Rattle.cs_index.proofs.writing.sections.Sections.name.Goals as goal

pub returns-clause-id : goal.returns-clause-id
returns-clause-id c = search rules
