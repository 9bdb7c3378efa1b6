-- The items of a tree in memory, as private contracts state them.
use Rattle.std.specs.Prelude.{◌≡◌, ◌≢◌, ℕ, Result, Ok, Err, List, Option, Some, string_bytes, position, bytes_eq}
use Rattle.std.specs.Result.{IsOkAnd}
use Rattle.cs_tree.specs.Snapshot.{Item}
use Rattle.cs_fakes.specs.Changes.{without_listed_names}
use Rattle.cs_tree.specs.StreamModels.{SourceModel}
use Rattle.cs_tree.specs.declared.fault.TreeFault.{TreeFault}
use Rattle.cs_tree.specs.declared.fault.TreeFault.TheVariants.{Memory}
use Rattle.cs_fakes.specs.declared.types.MemEntry.{MemEntry}

-- the item without the names that the path covers
abbrev pub unlisted_pair : List ℕ → List ℕ × Item → List ℕ × Item
unlisted_pair path pair = (pair.0, without_listed_names path pair.0 pair.1)

-- the index of the first item with the path
abbrev pub entry_index : List MemEntry → List ℕ → Option ℕ
entry_index items path = position (λ (entry : MemEntry). bytes_eq (string_bytes entry.path) path) items

-- The answer of a call that opens a file: the model of the opened file, or the snapshot's error, which is not an
-- allocation failure.
abbrev pub IsOpening : {A : Type 0} → Result SourceModel TreeFault → (A → Option SourceModel) → Result A TreeFault → Type 0
IsOpening opening left (Ok at) = IsOkAnd opening (λ file. left at ≡ Some file)
IsOpening opening left (Err fault) = (fault ≢ Memory) × (opening ≡ Err fault)
