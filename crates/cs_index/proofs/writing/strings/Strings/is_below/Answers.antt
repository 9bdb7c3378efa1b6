use Rattle.std.proofs.Common.{rules}
use Rattle.cs_index.proofs.writing.strings.Strings.is_below.Goals as goal

pub returns-in-Some : goal.returns-in-Some
returns-in-Some c = search rules
