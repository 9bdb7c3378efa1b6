-- FILE~ as an output.
use Rattle.std.specs.Prelude.{ℕ, Option}
use Rattle.cs_storage.specs.Storing.{Folder, Moves, Fills}
use Rattle.cs_storage.specs.declared.folder.NewFile.{NewFile}

-- the current folder
abbrev pub folder_filled : {F : Type 0} → NewFile F → F
folder_filled file = file.folder.now

-- the identity of the borrow of the folder, by which contracts relate an output to the folder that it leaves behind
abbrev pub reference_filled : {F : Type 0} → NewFile F → ℕ
reference_filled file = file.folder.ghost_name

-- Since the start, whatever it was, FILE~ was only appended to; from the old folder to the new one too.
abbrev pub FillsOn : Option Folder → Option Folder → Type 0
FillsOn old new = (start : Option Folder) → Moves Fills start old → Moves Fills start new
