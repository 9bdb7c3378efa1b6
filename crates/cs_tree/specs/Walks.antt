-- The result of a walk: the files that it finds, and the paths that it cannot read.
-- docs/FORMAT.md, "Paths and names".
use Rattle.std.specs.Prelude.{◌≡◌, ◌<◌, ◌≤◌, ◌⊎◌, ℕ, max, Bool, true, false, ◌&&◌, nat_le, if◌then◌else◌, List, [], ◌∷◌, map, length, Option, Some, None, IfSome, IsSomeAnd, String, string_bytes, bytes_eq}
use Rattle.cs_tree.specs.Failures.{count_if, most_failures}
use Rattle.cs_tree.specs.TreeAnswers.{fault_of}
use Rattle.cs_tree.specs.Folders.{child, lists, IsTree, are_distinct, last_element}
use Rattle.cs_tree.specs.PathSet.{Paths}
use Rattle.cs_tree.specs.NamesAscending.{are_ascending}
use Rattle.std.specs.List.{AllByRecursion, list_all}
use Rattle.std.specs.declared.alloc.Global.{Global}
use Rattle.cs_tree.specs.PathSet as set
pub use Rattle.cs_tree.specs.Cover.{is_among}
use Rattle.cs_tree.specs.Cover.{is_alone}
use Rattle.cs_tree.specs.Clean.{longest_path}
use Rattle.cs_tree.specs.Snapshot.{Snapshot, Item, item_at, folder, file, cut, other, bad}
use Rattle.cs_tree.specs.Reachability.{is_excluded, is_reachable}
use Rattle.cs_tree.specs.declared.walking.Walked.{Walked}
use Rattle.cs_tree.specs.declared.walking.WalkFault.{WalkFault}
use Rattle.cs_tree.specs.declared.walking.WalkFault.TheVariants.{Tree, Unnamed, TooLong}

-- ---- reachability as a relation

-- A walk reaches each of its paths whose last element is not excluded, and each entry of a folder that it reaches,
-- unless the name is excluded or the folder's path is too long.
pub data Reaches (tree : Snapshot) (paths : Paths) : List ℕ → Type 0 where
  named : (path : List ℕ) → set.contains paths path ≡ true → is_excluded (last_element path) ≡ false
      → Reaches tree paths path
  listed : (path name : List ℕ) → Reaches tree paths path → length path ≤ longest_path
      → lists (item_at tree path) name ≡ true → is_excluded name ≡ false → Reaches tree paths (child path name)

-- ---- what is found

-- the fault of an item: its look-up fails, or it is a folder with a name that is not text
abbrev pub item_fault : Item → Option WalkFault
item_fault (folder names true) = Some Unnamed
item_fault (folder names false) = None
item_fault (file bytes) = None
item_fault (cut bytes) = None
item_fault other = None
item_fault (bad fault) = Some (Tree (fault_of fault))

-- the fault of a path; a path that is too long is not looked up
abbrev pub path_fault : List ℕ → Item → Option WalkFault
path_fault path item = if nat_le (length path) longest_path then item_fault item else Some TooLong

abbrev pub is_file : Item → Bool
is_file (folder names unnamed) = false
is_file (file bytes) = true
is_file (cut bytes) = true
is_file other = false
is_file (bad fault) = false

-- whether there is a file at a path within the limit
abbrev pub is_short_file : Snapshot → List ℕ → Bool
is_short_file tree path = nat_le (length path) longest_path && is_file (item_at tree path)

-- whether a walk from the paths finds the name: it is reachable, and there is a file
abbrev pub is_found : Snapshot → Paths → List ℕ → Bool
is_found tree paths name = is_reachable tree paths name && is_short_file tree name

-- the fault of a path, if it is reachable and has one
abbrev pub fault_at : Snapshot → Paths → List ℕ → Option WalkFault
fault_at tree paths path = if is_reachable tree paths path then path_fault path (item_at tree path) else None

-- ---- lists of results

-- a path and its fault
abbrev pub FaultEntry : Type 0
FaultEntry = List ℕ × WalkFault

-- the fault of a path in the list, by its first entry
abbrev pub fault_among : List FaultEntry → List ℕ → Option WalkFault
fault_among [] path = None
fault_among (left ∷ faults) path = if bytes_eq left.0 path then Some left.1 else fault_among faults path

abbrev pub fault_paths : List FaultEntry → List (List ℕ)
fault_paths faults = map (λ (left : FaultEntry). left.0) faults

-- The names are exactly the files that a walk finds, and the faults exactly those of reachable paths, each once and
-- ascending.
pub record Finds (tree : Snapshot) (paths : Paths) (names : List (List ℕ)) (faults : List FaultEntry) : Type 0 where
  pub names_ascend : are_ascending names ≡ true
  pub names_are : (name : List ℕ) → is_among names name ≡ is_found tree paths name
  pub faults_ascend : are_ascending (fault_paths faults) ≡ true
  pub faults_are : (path : List ℕ) → fault_among faults path ≡ fault_at tree paths path

-- For an unmodelled tree the relation holds trivially.
abbrev pub FindsIn : Option Snapshot → Paths → List (List ℕ) → List FaultEntry → Type 0
FindsIn None paths names faults = Unit {0}
FindsIn (Some tree) paths names faults = IsTree tree → Finds tree paths names faults

-- each path is within the limit
abbrev pub AreWithinPathLimit : List (List ℕ) → Type 0
AreWithinPathLimit paths = AllByRecursion (λ path. length path ≤ longest_path) paths

-- ---- the paths of calls

-- between the two states, no call had a path of more than this many bytes
abbrev pub RequestsWithin : ℕ → Option ℕ → Option ℕ → Type 0
RequestsWithin most longest later = IfSome longest (λ was. IsSomeAnd later (λ now. now ≤ max was most))

-- ---- failure counts

-- some call has failed: the count rose, or is at its maximum
abbrev pub HasFailed : ℕ → ℕ → Type 0
HasFailed old new = (old < new) ⊎ (most_failures ≤ new)

-- the failure of a fault was counted
abbrev pub CountsFault : WalkFault → ℕ → ℕ → Type 0
CountsFault (Tree fault) old new = HasFailed old new
CountsFault Unnamed old new = Unit {0}
CountsFault TooLong old new = Unit {0}

abbrev pub CountsFaults : List FaultEntry → ℕ → ℕ → Type 0
CountsFaults faults old new = AllByRecursion (λ (left : FaultEntry). CountsFault left.1 old new) faults

-- whether a fault comes from a failed call of the tree
abbrev pub is_failed_call : WalkFault → Bool
is_failed_call (Tree fault) = true
is_failed_call Unnamed = false
is_failed_call TooLong = false

-- the count after the faults of a walk
abbrev pub failures_walked : List FaultEntry → ℕ → ℕ
failures_walked [] n = n
failures_walked (left ∷ faults) n = failures_walked faults (count_if (is_failed_call left.1) n)

-- whether the paths are distinct and no path covers another one
abbrev pub are_alone : List (List ℕ) → Bool
are_alone paths = list_all (is_alone paths) paths && are_distinct paths

-- ---- the values of the code

abbrev pub fault_entry : String Global × WalkFault → FaultEntry
fault_entry entry = (string_bytes entry.0, entry.1)

abbrev pub names_walked : Walked → List (List ℕ)
names_walked walked = map string_bytes walked.names.items

abbrev pub faults_walked : Walked → List FaultEntry
faults_walked walked = map fault_entry walked.faults.items
