-- The state of a walk: what it has found so far.
use Rattle.std.specs.Prelude.{◌≡◌, ◌≤◌, ◌+◌, ℕ, Bool, true, false, not, ◌&&◌, ◌||◌, nat_le, if◌then◌else◌, List, [], ◌∷◌, map, filter, length, is_some, Option, Some, None, bytes_eq}
use Rattle.cs_tree.specs.Failures.{count_if}
use Rattle.cs_tree.specs.Folders.{child, names_listed, IsTree}
use Rattle.std.specs.List.{AllByRecursion}
use Rattle.cs_tree.specs.Cover.{covers}
use Rattle.cs_tree.specs.Clean.{longest_path}
use Rattle.cs_tree.specs.Snapshot.{Snapshot, item_at}
use Rattle.cs_tree.specs.ReadCounts.{ReadCounts}
use Rattle.cs_tree.specs.ReadsNothing.{ReadsNothing}
use Rattle.cs_tree.specs.Trees.{listing_names}
use Rattle.cs_tree.specs.Reachability.{elements_under, is_excluded, descends}
use Rattle.cs_tree.specs.Walks.{FaultEntry, path_fault, is_short_file, is_among, fault_paths, names_walked, faults_walked, failures_walked, is_failed_call, AreWithinPathLimit, RequestsWithin}
use Rattle.cs_tree.specs.declared.walking.Walked.{Walked}
use Rattle.cs_tree.specs.declared.walking.WalkFault.{WalkFault}
use Rattle.cs_tree.specs.declared.walking.WalkFault.TheVariants.{Unnamed}
use Rattle.cs_tree.specs.declared.walking.PathStatus.{PathStatus}
use Rattle.cs_tree.specs.declared.walking.PathStatus.TheVariants as status

-- ---- one path

-- whether the name is reachable from the path by listed names that are not excluded
abbrev pub descends_to : Snapshot → List ℕ → List ℕ → Bool
descends_to tree path name = covers path name && descends tree path (elements_under path name)

-- whether a walk records a fault for the path
abbrev pub has_fault : Snapshot → List ℕ → Bool
has_fault tree path = is_some (path_fault path (item_at tree path))

-- ---- the result so far

-- the new names are the old ones and those that satisfy the test
abbrev pub Gains : List (List ℕ) → List (List ℕ) → (List ℕ → Bool) → Type 0
Gains old new test = (name : List ℕ) → is_among new name ≡ (is_among old name || test name)

-- each fault is that of its path in the tree
abbrev pub AreFaultsIn : Snapshot → List FaultEntry → Type 0
AreFaultsIn tree faults =
    AllByRecursion (λ (left : FaultEntry). path_fault left.0 (item_at tree left.0) ≡ Some left.1) faults

pub record Gathers (tree : Snapshot) (reach : List ℕ → Bool) (old new : Walked) : Type 0 where
  pub names : Gains (names_walked old) (names_walked new) (λ name. reach name && is_short_file tree name)
  pub paths : Gains (fault_paths (faults_walked old)) (fault_paths (faults_walked new))
      (λ path. reach path && has_fault tree path)
  pub right : AreFaultsIn tree (faults_walked old) → AreFaultsIn tree (faults_walked new)

abbrev pub GathersIn : Option Snapshot → (Snapshot → List ℕ → Bool) → Walked → Walked → Type 0
GathersIn None reach old new = Unit {0}
GathersIn (Some tree) reach old new = IsTree tree → Gathers tree (reach tree) old new

-- if all accepted names and all old names satisfy a test, so do all new names
abbrev pub KeepsTo : (List ℕ → Bool) → Walked → Walked → Type 0
KeepsTo accepts old new =
    (test : List ℕ → Bool) → ((name : List ℕ) → accepts name ≡ true → test name ≡ true)
    → AllByRecursion (λ name. test name ≡ true) (names_walked old)
    → AllByRecursion (λ name. test name ≡ true) (names_walked new)

-- if the old names are within the path limit, so are the new ones
abbrev pub KeepsPathLimit : Walked → Walked → Type 0
KeepsPathLimit old new = AreWithinPathLimit (names_walked old) → AreWithinPathLimit (names_walked new)

-- if the failure count agrees with the faults before the step, it does after it
abbrev pub KeepsCount : ℕ → ℕ → Walked → Walked → Type 0
KeepsCount count later old new =
    (start : ℕ) → count ≡ failures_walked (faults_walked old) start
    → later ≡ failures_walked (faults_walked new) start

-- the number of faults of a path
abbrev pub fault_count : List FaultEntry → List ℕ → ℕ
fault_count faults path = length (filter (λ (left : FaultEntry). bytes_eq left.0 path) faults)

-- no path has two faults
abbrev pub AreFaultsDistinct : List FaultEntry → Type 0
AreFaultsDistinct faults = (path : List ℕ) → fault_count faults path ≤ 1

-- the number of paths that cover the name
abbrev pub times_covered : List (List ℕ) → List ℕ → ℕ
times_covered paths name = length (filter (λ path. covers path name) paths)

-- a path gets at most one more fault for each path that covers it
abbrev pub AddsFewFaults : List (List ℕ) → Walked → Walked → Type 0
AddsFewFaults paths old new =
    (path : List ℕ) → fault_count (faults_walked new) path
    ≤ fault_count (faults_walked old) path + times_covered paths path

-- ---- the status of one path

abbrev pub is_file_seen : PathStatus → Bool
is_file_seen status.File = true
is_file_seen (status.Folder listing) = false
is_file_seen status.Other = false
is_file_seen (status.Unreadable fault) = false

abbrev pub fault_seen : PathStatus → Option WalkFault
fault_seen status.File = None
fault_seen (status.Folder listing) = if listing.unnamed then Some Unnamed else None
fault_seen status.Other = None
fault_seen (status.Unreadable fault) = Some fault

-- the listed names; only a folder has any
abbrev pub names_seen : PathStatus → List (List ℕ)
names_seen status.File = []
names_seen (status.Folder listing) = listing_names listing
names_seen status.Other = []
names_seen (status.Unreadable fault) = []

-- the status is that of the snapshot's item
pub record IsStatusOf (tree : Snapshot) (path : List ℕ) (status : PathStatus) : Type 0 where
  pub file : is_file_seen status ≡ is_short_file tree path
  pub fault : fault_seen status ≡ path_fault path (item_at tree path)
  pub names : names_seen status ≡
      (if nat_le (length path) longest_path then names_listed (item_at tree path) else [])

abbrev pub IsStatusIn : Option Snapshot → List ℕ → PathStatus → Type 0
IsStatusIn None path status = Unit {0}
IsStatusIn (Some tree) path status = IsStatusOf tree path status

-- only a path within the limit is found to be a file or a folder
abbrev pub IsEntered : List ℕ → PathStatus → Type 0
IsEntered path status.File = length path ≤ longest_path
IsEntered path (status.Folder listing) = length path ≤ longest_path
IsEntered path status.Other = Unit {0}
IsEntered path (status.Unreadable fault) = Unit {0}

-- a failed call is counted once
abbrev pub CountsStatus : PathStatus → ℕ → ℕ → Type 0
CountsStatus status.File old new = new ≡ old
CountsStatus (status.Folder listing) old new = new ≡ old
CountsStatus status.Other old new = new ≡ old
CountsStatus (status.Unreadable fault) old new = new ≡ count_if (is_failed_call fault) old

-- Paths are looked up and folders listed: the tree stays as it is, its failure count does not fall, no requested path is
-- longer than the limit, and no file is read.
abbrev pub LooksUp : {T : Type 0} → (T → Option Snapshot) → (T → ℕ) → (T → Option ℕ) → (T → Option ReadCounts)
    → T → T → Type 0
LooksUp snapshot failed longest counts old new =
    (snapshot new ≡ snapshot old) × (failed old ≤ failed new)
    × RequestsWithin longest_path (longest old) (longest new) × ReadsNothing (counts old) (counts new)

-- ---- pending paths

abbrev pub is_walked : List ℕ → Bool
is_walked name = not (bytes_eq name []) && not (is_excluded name)

-- the paths of a folder's entries, except the excluded ones
abbrev pub children : List ℕ → List (List ℕ) → List (List ℕ)
children path names = map (child path) (filter is_walked names)

abbrev pub named_if : Bool → List ℕ → List (List ℕ)
named_if true path = path ∷ []
named_if false path = []

abbrev pub fault_if : Option WalkFault → List ℕ → List FaultEntry
fault_if None path = []
fault_if (Some fault) path = (path, fault) ∷ []
