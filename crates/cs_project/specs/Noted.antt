-- What is noted of the files of a tree, so that they are learned. docs/PROMISES.md, "Over a state".
use Rattle.std.specs.Prelude.{ℕ, ◌≡◌, List, Option, Some}
use Rattle.std.specs.List.{AllByRecursion}
use Rattle.cs_tree.specs.Snapshot.{Snapshot}
use Rattle.cs_tree.specs.declared.tree.Stamp.{Stamp}
use Rattle.cs_listing.specs.Stamps.{Stamps}

-- A file that is noted: its path, and the stamp that was seen.
abbrev pub NotedFile : Type 0
NotedFile = List ℕ × Stamp

-- Each file that is noted has the stamp of its path.
abbrev pub AreSeen : Stamps → List NotedFile → Type 0
AreSeen stamps noted = AllByRecursion (λ (one : NotedFile). stamps one.0 ≡ Some one.1) noted

-- Whatever the stamps are, nothing else is noted.
abbrev pub NotesNothing : List NotedFile → List NotedFile → Type 0
NotesNothing old new = (stamps : Stamps) → AreSeen stamps old → AreSeen stamps new

-- Where the path has this stamp, no other stamp is noted.
abbrev pub NotesStamp : List ℕ → Option Stamp → List NotedFile → List NotedFile → Type 0
NotesStamp path stamp old new = (stamps : Stamps) → stamps path ≡ stamp → AreSeen stamps old → AreSeen stamps new

-- What is noted has the stamps of the tree, if it is modelled.
abbrev pub NotesSeen : (Snapshot → Stamps) → Option Snapshot → List NotedFile → List NotedFile → Type 0
NotesSeen stamps snapshot old new =
    (tree : Snapshot) → snapshot ≡ Some tree → AreSeen (stamps tree) old → AreSeen (stamps tree) new
