-- The stamps of the files that a walk gives. docs/PROMISES.md, "Rules".
use Rattle.std.specs.Prelude.{ℕ, ◌≡◌, ◌≢◌, List, true, Option, Some, IfSome, string_bytes}
use Rattle.std.specs.List.{All}
use Rattle.cs_tree.specs.Snapshot.{Snapshot}
use Rattle.cs_tree.specs.declared.tree.Stamp.{Stamp}
use Rattle.cs_listing.specs.FolderReads.{entry_path, key_of}
use Rattle.cs_listing.specs.Entries.{entry_key}
use Rattle.cs_listing.specs.declared.entries.Entry.{Entry}
use Rattle.cs_listing.specs.declared.walk.Found.{Found}
use Rattle.cs_listing.specs.declared.walk.Found.TheVariants as found
use Rattle.cs_listing.specs.declared.walk.Step.{Step}
use Rattle.cs_listing.specs.declared.walk.Step.TheVariants as step
use Rattle.cs_listing.specs.declared.walk.Frame.{Frame}
use Rattle.cs_listing.specs.declared.walk.Walk.{Walk}

-- the stamps of the items at the paths of a tree
abbrev pub Stamps : Type 0
Stamps = List ℕ → Option Stamp

-- what holds of the stamps of a tree, if it is modelled
abbrev pub InStamps : Option Snapshot → (Snapshot → Stamps) → (Stamps → Type 0) → Type 0
InStamps snapshot stamps P = IfSome snapshot (λ tree. P (stamps tree))

-- What is given is a file with the stamp of its path, or no file.
abbrev pub GivesStamp : Stamps → Option Found → Type 0
GivesStamp stamps (Some (found.File file)) = file.stamp ≡ stamps (string_bytes file.path)
GivesStamp stamps given = Unit {0}

-- ---- entries and open folders

-- a key without a slash at its end
abbrev pub IsFileKey : List ℕ → Type 0
IsFileKey key = (name : List ℕ) → key ≢ key_of true name

-- an entry that is a file has the stamp of its path
abbrev pub IsStamped : Stamps → List ℕ → Entry → Type 0
IsStamped stamps stem entry = IsFileKey (entry_key entry) → entry.stamp ≡ stamps (entry_path stem (entry_key entry))

abbrev pub IsFrameStamped : Stamps → Frame → Type 0
IsFrameStamped stamps frame = All (IsStamped stamps (string_bytes frame.stem)) frame.entries.items

-- The entries that are still to come have the stamps of their paths.
abbrev pub AreStamped : Stamps → Walk → Type 0
AreStamped stamps walk = All (IsFrameStamped stamps) walk.frames.items

abbrev pub KeepsStamped : Stamps → Walk → Walk → Type 0
KeepsStamped stamps old new = AreStamped stamps old → AreStamped stamps new

-- A call of `next` gives the stamps of such a walk, and leaves such a walk.
abbrev pub GivesStamped : Stamps → Walk → Walk → Option Found → Type 0
GivesStamped stamps old new given = AreStamped stamps old → AreStamped stamps new × GivesStamp stamps given

abbrev pub StepGivesStamped : Stamps → Walk → Walk → Step → Type 0
StepGivesStamped stamps old new (step.Done given) = GivesStamped stamps old new given
StepGivesStamped stamps old new step.More = KeepsStamped stamps old new
