use Rattle.std.proofs.Common.{rules}
use Rattle.cs_index.proofs.writing.sections.Sections.list.Goals as goal

pub returns : goal.returns
returns c = search rules
