-- What a state knows of the files of a project, from which runs, and when it still holds.
use Rattle.std.specs.Prelude.{◌≡◌, ◌⊎◌, ℕ, true, List, [], ◌∷◌, Option, Some, IsSome}
use Rattle.std.specs.FinMap as map'
use Rattle.std.specs.List.{AllByRecursion}
use Rattle.cs_tree.specs.Snapshot.{Item, file}
use Rattle.cs_tree.specs.Reachability.{read_item}
use Rattle.cs_tree.specs.declared.tree.Stamp.{Stamp}
use Rattle.cs_trigram.specs.Text.{text_trigrams, limits}
use Rattle.cs_index.specs.OpenedParts.{Parts, files_in}
use Rattle.cs_lines.specs.Shown.{is_binary}
use Rattle.cs_state.specs.Known.{HasNumbers, Known, Kept, indexed, binary, apart, is_old}
use Rattle.cs_state.specs.StampedNames.{Knows, stamped}

-- What a run sees at each name of a project: the item, and its stamp, if it is a file that has one.
pub record View : Type 0 where
  pub item : List ℕ → Item
  pub stamp : List ℕ → Option Stamp

-- A run: what it saw, and its moment, at which it had read nothing yet.
pub record Run : Type 0 where
  pub view : View
  pub moment : ℕ

-- An item reads as what it is known as: a text with these trigrams, or binary. A text apart may read as it will.
abbrev pub ReadsAs : Kept → Option (List ℕ) → Item → Type 0
ReadsAs indexed trigrams item = IsSome trigrams × (read_item (text_trigrams limits) item ≡ trigrams)
ReadsAs binary trigrams item = (text : List ℕ) × (item ≡ file text) × (is_binary text ≡ true)
ReadsAs apart trigrams item = Unit {0}

-- The run saw this stamp, which was old at its moment, and then read the file so.
pub record IsLearnedBy (run : Run) (parts : Parts) (known : Known) : Type 0 where
  pub stamp : run.view.stamp known.name ≡ Some known.stamp
  pub old : is_old run.moment known.stamp ≡ true
  pub read : ReadsAs known.kept (map'.get (files_in parts) (stamped known)) (run.view.item known.name)

-- one of the runs learned it
abbrev pub IsLearnedIn : List Run → Parts → Known → Type 0
IsLearnedIn [] parts known = ⊥
IsLearnedIn (run ∷ runs) parts known = IsLearnedBy run parts known ⊎ IsLearnedIn runs parts known

-- All that a state with these parts knows, by stamps whose numbers have eight bytes, was learned in these runs.
abbrev pub IsLearned : List Run → Parts → Type 0
IsLearned runs parts = (one : Known) → HasNumbers one.stamp → Knows parts one → IsLearnedIn runs parts one

-- A file that has a stamp which the run saw, and which was old then, reads as it read then.
abbrev pub ReadsAsBefore : View → Run → Type 0
ReadsAsBefore now run = (name : List ℕ) (stamp : Stamp) → run.view.stamp name ≡ Some stamp → is_old run.moment stamp ≡ true →
    now.stamp name ≡ Some stamp → now.item name ≡ run.view.item name

-- The premises of a search: earlier runs learned what the state knows, and files read as before.
pub record StillHolds (runs : List Run) (parts : Parts) (now : View) : Type 0 where
  pub learned : IsLearned runs parts
  pub as_before : AllByRecursion (ReadsAsBefore now) runs
