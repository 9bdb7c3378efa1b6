-- The walk of a project: which files are still to come, and what one call of `next` gives. docs/PROMISES.md, "Rules".
use Rattle.std.specs.Prelude.{ℕ, ◌≡◌, ◌≢◌, ◌⊎◌, ◌≤◌, ◌<◌, ◌+◌, ◌-◌, ◌*◌, ◌^◌, Bool, true, false, ◌&&◌, ◌||◌, List, [], ◌∷◌, ◌++◌, map, drop, reverse, length, Option, Some, None, String, string_bytes, bytes_eq}
use Rattle.std.specs.List.{AllByRecursion}
use Rattle.std.specs.Ordering.{is_lt}
use Rattle.std.specs.BTreeSet.{BTreeSet, contains_text}
use Rattle.std.specs.declared.alloc.Global.{Global}
use Rattle.cs_tree.specs.NameOrder.{bytes_cmp}
use Rattle.cs_tree.specs.NamesAscending.{are_ascending}
use Rattle.cs_tree.specs.Elements.{is_among, is_element, are_elements}
use Rattle.cs_tree.specs.Snapshot.{Snapshot}
use Rattle.cs_tree.specs.Folders.{names_listed}
use Rattle.cs_tree.specs.Clean.{path_of, with_slashes, longest_path}
use Rattle.cs_tree.specs.Walks.{is_file}
use Rattle.cs_listing.specs.Layers.{room_after}
use Rattle.cs_listing.specs.Models.{settings_of, folders_in, names_in}
use Rattle.cs_listing.specs.Listing.{Settings, TreeItems, rule_names, folders_to, is_listed, has_more, after, is_found}
use Rattle.cs_listing.specs.FolderReads.{InTree, folder_path, folder_read, key_of, keys_taken}
use Rattle.cs_listing.specs.Entries.{entry_keys, AreKeysOf}
use Rattle.cs_listing.specs.declared.layers.Layers.{Layers}
use Rattle.cs_listing.specs.declared.fault.Unread.{Unread}
use Rattle.cs_listing.specs.declared.walk.Found.{Found}
use Rattle.cs_listing.specs.declared.walk.Found.TheVariants as found
use Rattle.cs_listing.specs.declared.walk.Step.{Step}
use Rattle.cs_listing.specs.declared.walk.Step.TheVariants as step
use Rattle.cs_listing.specs.declared.walk.Frame.{Frame}
use Rattle.cs_listing.specs.declared.walk.Walk.{Walk}

-- ---- what is still to come. A path is given by its elements from `/` down, the elements of a folder last one first.

-- the text of a path
abbrev pub path_text : List (List ℕ) → List ℕ
path_text path = with_slashes (reverse path)

-- whether the file at a path below a folder is one of these entries of it, or below one
abbrev pub comes_by : Settings → TreeItems → List (List ℕ) → List (List ℕ) → List (List ℕ) → Bool
comes_by settings items above keys [] = false
comes_by settings items above keys (name ∷ path) =
    is_element name && (is_among keys (key_of (has_more path) name) && is_listed settings items (name ∷ above) path)

-- the same of what follows the folder in a path, if it is below the folder
abbrev pub comes_after : Settings → TreeItems → List (List ℕ) → List (List ℕ) → Option (List (List ℕ)) → Bool
comes_after settings items above keys None = false
comes_after settings items above keys (Some path) = comes_by settings items above keys path

-- whether the file at a path is still to come, by the entries of the open folders, the deepest first
abbrev pub is_to_come : Settings → TreeItems → List (List ℕ) → List (List (List ℕ)) → List (List ℕ) → Bool
is_to_come settings items above [] path = false
is_to_come settings items above (keys ∷ frames) path =
    comes_after settings items above keys (after (reverse above) path) || is_to_come settings items (drop 1 above) frames path

-- the first of some paths is taken
pub record TakesFirst (old new : List (List ℕ) → Bool) (path : List (List ℕ)) : Type 0 where
  pub taken : old path ≡ true
  pub kept : (other : List (List ℕ)) → other ≢ path → new other ≡ old other
  pub first : (other : List (List ℕ)) → new other ≡ true → is_lt (bytes_cmp (path_text path) (path_text other)) ≡ true

-- ---- the values of the code

abbrev pub settings_in : Walk → Settings
settings_in walk = settings_of walk.layers

-- the elements of the deepest folder, last one first
abbrev pub above_in : Layers → List (List ℕ)
above_in layers = reverse (names_in layers)

abbrev pub keys_in : Frame → List (List ℕ)
keys_in frame = entry_keys frame.entries.items

-- the keys of the open folders
abbrev pub keys_of_all : List Frame → List (List (List ℕ))
keys_of_all [] = []
keys_of_all (frame ∷ frames) = keys_in frame ∷ keys_of_all frames

-- the open folders, the deepest first
abbrev pub frames_in : Walk → List Frame
frames_in walk = reverse walk.frames.items

-- whether the file at a path is still to come
abbrev pub is_left : Walk → TreeItems → List (List ℕ) → Bool
is_left walk items path = is_to_come (settings_in walk) items (above_in walk.layers) (keys_of_all (frames_in walk)) path

-- ---- a walk of a tree

-- an entry of a folder: its path is within the limit, and it is a file if it is none of a folder
abbrev pub IsKeyOf : TreeItems → List (List ℕ) → List ℕ → Type 0
IsKeyOf items above key = (name : List ℕ) × (is_folder : Bool) × (key ≡ key_of is_folder name) × (is_element name ≡ true)
    × (length (path_of (name ∷ above)) ≤ longest_path) × (is_folder ≡ false → is_file (items (path_of (name ∷ above))) ≡ true)

-- an open folder of the tree; the keys before its entries are those of the open folder in it, if there is one
pub record IsOpen (items : TreeItems) (before above : List (List ℕ)) (frame : Frame) : Type 0 where
  pub stem : string_bytes frame.stem ≡ with_slashes above
  pub ascend : are_ascending (before ++ keys_in frame) ≡ true
  pub keys : AllByRecursion (IsKeyOf items above) (keys_in frame)

-- the open folders around a folder, the deepest first
abbrev pub AreAround : TreeItems → List (List ℕ) → List Frame → Type 0
AreAround items above [] = Unit {0}
AreAround items [] (frame ∷ frames) = ⊥
AreAround items (name ∷ above) (frame ∷ frames) =
    (is_element name ≡ true) × IsOpen items (key_of true name ∷ []) above frame × AreAround items above frames

-- the rule files of the layers are those of the tree, and the open folders are of the tree, the deepest first
abbrev pub IsOf : TreeItems → Layers → List Frame → Type 0
IsOf items layers [] = Unit {0}
IsOf items layers (frame ∷ frames) = (folders_in layers ≡ folders_to (settings_of layers).takes_ignored items (above_in layers))
    × IsOpen items [] (above_in layers) frame × AreAround items (above_in layers) frames

-- the walk is one of this tree: what it has read of the tree is still so
abbrev pub IsWalkIn : TreeItems → Walk → Type 0
IsWalkIn items walk = IsOf items walk.layers (frames_in walk)

-- What `next` gives: the first of the files that are left; or a path that could not be read, or the end if no file is left.
abbrev pub GivesNext : (List (List ℕ) → Bool) → (List (List ℕ) → Bool) → Option Found → Type 0
GivesNext old new None = (path : List (List ℕ)) → old path ≡ false
GivesNext old new (Some (found.Unread unread)) = (path : List (List ℕ)) → new path ≡ old path
GivesNext old new (Some (found.File file)) =
    (path : List (List ℕ)) × (string_bytes file.path ≡ path_text path) × TakesFirst old new path

abbrev pub Gives : TreeItems → Walk → Walk → Option Found → Type 0
Gives items old new given = IsWalkIn items new × GivesNext (is_left old items) (is_left new items) given

-- the walk begins with the files that a search of the folder lists
abbrev pub Begins : TreeItems → List (List ℕ) → Walk → Type 0
Begins items start walk =
    IsWalkIn items walk × ((path : List (List ℕ)) → is_left walk items path ≡ is_found (settings_in walk) items start path)

-- ---- steps

abbrev pub StepGives : TreeItems → Walk → Walk → Step → Type 0
StepGives items old new (step.Done given) = Gives items old new given
StepGives items old new step.More = IsWalkIn items new × ((path : List (List ℕ)) → is_left new items path ≡ is_left old items path)

-- the bytes that are left for the rule files of a folder of the deepest one
abbrev pub room_in : Walk → Option ℕ
room_in walk = room_after (settings_in walk).takes_ignored (folders_in walk.layers)

-- A folder is entered: its rule files are added.
abbrev pub Enters : TreeItems → List ℕ → List (List ℕ) → Walk → Walk → Type 0
Enters items stem names old new =
    (names ≡ names_listed (items (folder_path stem))) × (are_elements names ≡ true)
    × (folders_in new.layers ≡ folders_in old.layers
    ++ folder_read (room_in old) items stem (rule_names items stem (items (folder_path stem))) ∷ [])

-- A folder is opened: the entries that are taken are the next ones to come.
abbrev pub Opens : Option Snapshot → String Global → List (List ℕ) → Walk → Walk → Type 0
Opens snapshot stem names old new =
    (frame : Frame) × (new.frames.items ≡ old.frames.items ++ frame ∷ []) × (frame.stem ≡ stem)
    × (are_ascending (keys_in frame) ≡ true)
    × InTree snapshot (λ items. AreKeysOf (keys_in frame) (keys_taken old.layers items (string_bytes stem) names))

-- ---- whole walks

-- the files that are given one after the other, until none is left
abbrev pub GivesAll : (List (List ℕ) → Bool) → List (List (List ℕ)) → Type 0
GivesAll left [] = (path : List (List ℕ)) → left path ≡ false
GivesAll left (path ∷ paths) = (later : List (List ℕ) → Bool) × TakesFirst left later path × GivesAll later paths

-- They are ascending. Each was left at the beginning, and what is none of them was not.
abbrev pub GivesInOrder : Type 0
GivesInOrder = (left : List (List ℕ) → Bool) (paths : List (List (List ℕ))) → GivesAll left paths →
    (are_ascending (map path_text paths) ≡ true) × AllByRecursion (λ path. left path ≡ true) paths
    × ((other : List (List ℕ)) → AllByRecursion (λ path. path ≢ other) paths → left other ≡ false)

-- ---- private steps

-- a folder of the deepest one is to be visited: its rule files and those of the folders above are those of the tree
abbrev pub IsVisit : TreeItems → List ℕ → String Global → Walk → Type 0
IsVisit items name stem walk =
    (frames_in walk ≢ []) × (folders_in walk.layers ≡ folders_to (settings_in walk).takes_ignored items (above_in walk.layers))
    × AreAround items (name ∷ above_in walk.layers) (frames_in walk)
    × (string_bytes stem ≡ with_slashes (name ∷ above_in walk.layers)) × (length (string_bytes stem) ≤ longest_path)

-- one more entry of the deepest folder
abbrev pub with_key : List ℕ → List (List (List ℕ)) → List (List (List ℕ))
with_key key [] = []
with_key key (keys ∷ frames) = (key ∷ keys) ∷ frames

-- It is visited: what was to come by its entry is to come.
abbrev pub Visits : TreeItems → List ℕ → Walk → Walk → Type 0
Visits items name old new =
    IsWalkIn items new × ((path : List (List ℕ)) → is_left new items path ≡ is_to_come (settings_in old) items
    (above_in old.layers) (with_key (key_of true name) (keys_of_all (frames_in old))) path)

-- ---- paths that could not be read

-- the path is reported, for the first time
abbrev pub Reports : BTreeSet (String Global) → BTreeSet (String Global) → List ℕ → Type 0
Reports old new path = (contains_text old path ≡ false)
    × ((other : List ℕ) → contains_text new other ≡ (bytes_eq path other || contains_text old other))

abbrev pub KeepsReports : BTreeSet (String Global) → BTreeSet (String Global) → Type 0
KeepsReports old new = (path : List ℕ) → contains_text new path ≡ contains_text old path

abbrev pub HasReportedNone : Walk → Type 0
HasReportedNone walk = (path : List ℕ) → contains_text walk.reported path ≡ false

-- A path that could not be read is given once.
abbrev pub ReportsOnce : Walk → Walk → Option Found → Type 0
ReportsOnce old new None = KeepsReports old.reported new.reported
ReportsOnce old new (Some (found.File file)) = KeepsReports old.reported new.reported
ReportsOnce old new (Some (found.Unread unread)) = Reports old.reported new.reported (string_bytes unread.path)

abbrev pub StepReportsOnce : Walk → Walk → Step → Type 0
StepReportsOnce old new (step.Done given) = ReportsOnce old new given
StepReportsOnce old new step.More = KeepsReports old.reported new.reported

abbrev pub WereReported : BTreeSet (String Global) → List Unread → Type 0
WereReported reported unread = AllByRecursion (λ one. contains_text reported (string_bytes one.path) ≡ true) unread

-- One of some paths is taken from the end. Those behind it were reported before, and are left out.
abbrev pub TakesOne : BTreeSet (String Global) → List Unread → List Unread → Unread → Type 0
TakesOne reported old new unread = (others : List Unread) × (old ≡ new ++ unread ∷ others) × WereReported reported others

-- the next one, if there is one that was not reported; else all are taken
abbrev pub TakesUnread : List Unread → List Unread → BTreeSet (String Global) → BTreeSet (String Global) → Option Unread → Type 0
TakesUnread old new before after None = KeepsReports before after × (new ≡ []) × WereReported before old
TakesUnread old new before after (Some unread) = TakesOne before old new unread × Reports before after (string_bytes unread.path)

-- ---- termination

-- What the entries of the open folders weigh, from the topmost folder down: an entry weighs more than all entries of a folder
-- below it.
abbrev pub weight : ℕ → List Frame → ℕ
weight level [] = 0
weight level (frame ∷ frames) = (length frame.entries.items + 1) * 2 ^ (65 * (4097 - level)) + weight (level + 1) frames

abbrev pub walk_weight : Walk → ℕ
walk_weight walk = weight 0 walk.frames.items

-- the paths that could not be read, and are still to be given, the next one last
abbrev pub unread_in : Walk → List Unread
unread_in walk = walk.reader.unread.items

-- A call that gives something comes nearer to the end: the walk is lighter, or a path that could not be read is left behind.
abbrev pub ComesNearer : Walk → Walk → Option Found → Type 0
ComesNearer old new None = Unit {0}
ComesNearer old new (Some (found.File file)) = walk_weight new < walk_weight old
ComesNearer old new (Some (found.Unread unread)) = (walk_weight new < walk_weight old)
    ⊎ ((walk_weight new ≡ walk_weight old) × TakesOne old.reported (unread_in old) (unread_in new) unread)

-- a step that goes on makes the walk lighter
abbrev pub StepComesNearer : Walk → Walk → Step → Type 0
StepComesNearer old new (step.Done given) = ComesNearer old new given
StepComesNearer old new step.More = walk_weight new < walk_weight old

-- at most one folder is opened, and none where as many are open as a path has bytes
abbrev pub OpensAtMostOne : Walk → Walk → Type 0
OpensAtMostOne old new =
    (new.frames.items ≡ old.frames.items) ⊎ ((length old.frames.items ≤ longest_path)
    × ((frame : Frame) × (new.frames.items ≡ old.frames.items ++ frame ∷ [])))
