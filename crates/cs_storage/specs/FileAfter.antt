-- What an update makes of the index file.
use Rattle.std.specs.Prelude.{◌≡◌, ◌++◌, ℕ, List, Option, Some, None}
use Rattle.cs_storage.specs.declared.update.IndexUpdate.{IndexUpdate}
use Rattle.cs_storage.specs.declared.update.IndexUpdate.TheVariants.{Keep, Write, Remove}

-- the bytes of the file after an update
abbrev pub file_after : IndexUpdate → Option (List ℕ) → Option (List ℕ)
file_after Keep file = file
file_after (Write sent) file = Some sent.bytes
file_after Remove file = None

-- the bytes of the update, if it has some, were given to an output that has been given `old` before, and now `new`
abbrev pub IsGiven : IndexUpdate → List ℕ → List ℕ → Type 0
IsGiven Keep old new = Unit {0}
IsGiven (Write sent) old new = new ≡ old ++ sent.bytes
IsGiven Remove old new = Unit {0}

-- an update that changes the file
abbrev pub IsChange : IndexUpdate → Type 0
IsChange Keep = ⊥
IsChange _ = Unit {0}
