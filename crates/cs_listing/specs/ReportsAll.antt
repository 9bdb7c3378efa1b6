-- Each path that cannot be read is noted while a walk reads, and given later. docs/PROMISES.md, "Rules".
use Rattle.std.specs.Prelude.{ℕ, ◌≡◌, ◌⊎◌, ◌↔◌, Bool, true, ◌||◌, List, [], ◌∷◌, ◌++◌, map, drop, Option, Some, None, is_some, String, string_bytes}
use Rattle.std.specs.BTreeSet.{BTreeSet, contains_text}
use Rattle.std.specs.declared.alloc.Global.{Global}
use Rattle.cs_tree.specs.Snapshot.{Snapshot}
use Rattle.cs_tree.specs.Elements.{is_among}
use Rattle.cs_listing.specs.Listing.{Settings, TreeItems, rule_names}
use Rattle.cs_listing.specs.FolderReads.{InTree, folder_path, key_of, out_by}
use Rattle.cs_listing.specs.Unreadable.{IsUnreadFrom, IsUnreadable, unread_rules, unseen_entries, is_unlisted, only_if}
use Rattle.cs_listing.specs.Walk.{settings_in, room_in, above_in, frames_in, keys_of_all, with_key}
use Rattle.cs_listing.specs.declared.entries.FolderReader.{FolderReader}
use Rattle.cs_listing.specs.declared.entries.FolderNames.{FolderNames}
use Rattle.cs_listing.specs.declared.fault.Unread.{Unread}
use Rattle.cs_listing.specs.declared.walk.Found.{Found}
use Rattle.cs_listing.specs.declared.walk.Step.{Step}
use Rattle.cs_listing.specs.declared.walk.Step.TheVariants as step
use Rattle.cs_listing.specs.declared.walk.Walk.{Walk}

-- ---- what is noted

abbrev pub unread_paths : List Unread → List (List ℕ)
unread_paths unread = map (λ (one : Unread). string_bytes one.path) unread

abbrev pub paths_noted : FolderReader → List (List ℕ)
paths_noted reader = unread_paths reader.unread.items

-- these paths of the tree are noted
abbrev pub Notes : Option Snapshot → FolderReader → FolderReader → (TreeItems → List (List ℕ)) → Type 0
Notes snapshot old new paths = InTree snapshot (λ items. paths_noted new ≡ paths_noted old ++ paths items)

-- the path of a folder, if it was not listed whole
abbrev pub unlisted_path : List ℕ → FolderNames → List (List ℕ)
unlisted_path stem listed = only_if (is_some listed.fault) (folder_path stem)

-- ---- what is to be reported

-- whether the path was reported, or is noted
abbrev pub is_noted : Walk → List ℕ → Bool
is_noted walk path = contains_text walk.reported path || is_among (paths_noted walk.reader) path

-- the path cannot be read from the entries of the open folders on, the deepest first
abbrev pub ComesUnread : Settings → TreeItems → List (List ℕ) → List (List (List ℕ)) → List ℕ → Type 0
ComesUnread settings items above [] path = ⊥
ComesUnread settings items above (keys ∷ frames) path =
    ((name : List ℕ) × (is_among keys (key_of true name) ≡ true) × IsUnreadFrom settings items (name ∷ above) path)
    ⊎ ComesUnread settings items (drop 1 above) frames path

-- the path was reported, or is noted, or cannot be read of what is to come
abbrev pub IsToReport : TreeItems → Walk → List ℕ → Type 0
IsToReport items walk path = (is_noted walk path ≡ true)
    ⊎ ComesUnread (settings_in walk) items (above_in walk.layers) (keys_of_all (frames_in walk)) path

abbrev pub KeepsToReport : TreeItems → Walk → Walk → Type 0
KeepsToReport items old new = (path : List ℕ) → IsToReport items new path ↔ IsToReport items old path

-- A walk that begins is to report what a search of the folder cannot read.
abbrev pub BeginsToReport : TreeItems → List (List ℕ) → Walk → Type 0
BeginsToReport items start walk = (path : List ℕ) → IsToReport items walk path ↔ IsUnreadable (settings_in walk) items start path

-- What is to be reported stays so, and at the end was reported.
abbrev pub ReportsAll : TreeItems → Walk → Walk → Option Found → Type 0
ReportsAll items old new None = (path : List ℕ) → IsToReport items old path → contains_text old.reported path ≡ true
ReportsAll items old new (Some found) = KeepsToReport items old new

-- ---- steps

abbrev pub StepReportsAll : TreeItems → Walk → Walk → Step → Type 0
StepReportsAll items old new (step.Done given) = ReportsAll items old new given
StepReportsAll items old new step.More = KeepsToReport items old new

-- what of the rules of a folder cannot be read
abbrev pub unread_rules_of : Option ℕ → TreeItems → List ℕ → List (List ℕ)
unread_rules_of room items stem = unread_rules room items stem (rule_names items stem (items (folder_path stem)))

-- A folder is entered: what of its rules cannot be read is noted, and whether it was listed whole is returned.
abbrev pub EntersNoting : Option Snapshot → List ℕ → FolderNames → Walk → Walk → Type 0
EntersNoting snapshot stem listed old new =
    Notes snapshot old.reader new.reader (λ items. unread_rules_of (room_in old) items stem)
    × InTree snapshot (λ items. is_some listed.fault ≡ is_unlisted (items (folder_path stem)))

-- A folder is opened: if it was not listed whole it is noted, and what of its entries cannot be read.
abbrev pub OpensNoting : Option Snapshot → List ℕ → List (List ℕ) → FolderNames → Walk → Walk → Type 0
OpensNoting snapshot stem names listed old new = Notes snapshot old.reader new.reader
    (λ items. unlisted_path stem listed ++ unseen_entries (out_by old.layers) items stem names)

-- A folder of the deepest one is visited: what cannot be read from it on is noted or to come.
abbrev pub VisitsNoting : TreeItems → List ℕ → Walk → Walk → Type 0
VisitsNoting items name old new = (path : List ℕ) → IsToReport items new path ↔ ((is_noted old path ≡ true)
    ⊎ ComesUnread (settings_in old) items (above_in old.layers) (with_key (key_of true name) (keys_of_all (frames_in old))) path)

-- Of some paths the next one that was not reported is taken, or none is left: all of them stay noted or reported.
abbrev pub KeepsNoted : BTreeSet (String Global) → BTreeSet (String Global) → List Unread → List Unread → Type 0
KeepsNoted before after old new = (path : List ℕ) →
    (contains_text after path || is_among (unread_paths new) path) ≡ (contains_text before path || is_among (unread_paths old) path)
