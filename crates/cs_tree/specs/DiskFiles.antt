-- The open file of the real disk.
-- docs/PROMISES.md, "Trees and walks".
use Rattle.std.specs.Prelude.{◌≡◌, ℕ, List, Option, Result, Ok, Err}
use Rattle.std.specs.Io.KnownBytes.{ReadConsumes}
use Rattle.cs_tree.specs.declared.disk_tree.DiskFile.{DiskFile}
use Rattle.cs_tree.specs.declared.disk_tree.DiskFile.TheVariants.{Closed, Empty, Open}
use Rattle.cs_tree.specs.declared.fault.TreeFault.{TreeFault}
use Rattle.cs_tree.specs.declared.fault.TreeFault.TheVariants.{Failed}

-- A read gives the next bytes of the open file, none of an empty one, and an error if no file is open.
abbrev pub DiskFileGives : {F : Type 0} → (F → Option (List ℕ)) → DiskFile F → DiskFile F → Result ℕ TreeFault → List ℕ → Type 0
DiskFileGives remaining Closed later result buf = (result ≡ Err Failed) × (later ≡ Closed)
DiskFileGives remaining Empty later result buf = (result ≡ Ok 0) × (later ≡ Empty)
DiskFileGives {F} remaining (Open file) later result buf =
    (now : F) × (later ≡ Open now) × ReadConsumes (remaining file) (remaining now) result buf
