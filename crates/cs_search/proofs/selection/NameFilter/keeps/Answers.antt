use Rattle.std.proofs.Common.{rules}
use Rattle.cs_search.proofs.selection.NameFilter.keeps.Goals as goal

pub returns-in-Some-clause-tested : goal.returns-in-Some-clause-tested
returns-in-Some-clause-tested c = search rules
