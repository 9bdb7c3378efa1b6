use Rattle.std.proofs.Common.{rules}
use Rattle.cs_fakes.proofs.types.MemItem.opening.Goals as goal

pub returns-in-Folder : goal.returns-in-Folder
returns-in-Folder c = search rules

pub returns-in-Folder-2 : goal.returns-in-Folder-2
returns-in-Folder-2 c = search rules
