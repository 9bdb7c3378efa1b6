-- The paths that a job walks, and the index after it, over any base index.
-- docs/PROMISES.md, "Jobs of cindex".
use Rattle.std.specs.Prelude.{◌≡◌, ℕ, true, if◌then◌else◌, List, Option, Some, None, Result, Ok, Err, IsOkAnd}
use Rattle.cs_history.specs.JobIndex.{tree_index}
use Rattle.cs_tree.specs.Folders.{IsModelled}
use Rattle.cs_tree.specs.PathSet.{Paths}
use Rattle.std.specs.FinMap as map'
use Rattle.cs_tree.specs.Cover.{least}
use Rattle.cs_tree.specs.Snapshot.{Snapshot}
use Rattle.cs_index.specs.Encoding.{Files, encoding}
use Rattle.cs_index.specs.Opening.{opening}
use Rattle.cs_index.specs.OpenedParts.{Parts, are_whole, paths_in}
use Rattle.cs_index.specs.declared.fault.IndexFault.{IndexFault}
use Rattle.cs_merge.specs.Content.{IsContent, LieUnder}
use Rattle.cs_merge.specs.Mergeable.{merge_index}
use Rattle.cs_args.specs.declared.jobs.IndexJob.{IndexJob}
use Rattle.cs_history.specs.Jobs.{given_paths, has_no_path}
use Rattle.cs_history.specs.Premises.{modelled_snapshot, IsShort}
use Rattle.cs_history.specs.Replies.{IsLong}

-- ---- what a job walks

-- the paths of an index that opens
abbrev pub opening_paths : Result Parts IndexFault → Paths
opening_paths (Ok parts) = paths_in parts
opening_paths (Err fault) = map'.empty

-- the paths of the base index
abbrev pub base_paths : Option (List ℕ) → Paths
base_paths None = map'.empty
base_paths (Some bytes) = opening_paths (opening bytes)

-- the paths that a job walks over a base index: its own, or, if it has none, those of the index
abbrev pub paths_of_job : IndexJob → Option (List ℕ) → Paths
paths_of_job job old = least (if has_no_path job then base_paths old else given_paths job)

-- ---- the index after it

-- the merge of two indexes that open
abbrev pub opening_merge : Result Parts IndexFault → Result Parts IndexFault → Option (List ℕ)
opening_merge (Ok old) (Ok own) = Some (merge_index old own)
opening_merge (Ok old) (Err fault) = None
opening_merge (Err fault) own = None

-- the job's own index, merged with the base index if there is one
abbrev pub next_index : Option (List ℕ) → List ℕ → Option (List ℕ)
next_index None own = Some own
next_index (Some bytes) own = opening_merge (opening bytes) (opening own)

-- every list of the base index is whole, if there is one
abbrev pub HasWholeLists : Option (List ℕ) → Type 0
HasWholeLists None = Unit {0}
HasWholeLists (Some bytes) = IsOkAnd (opening bytes) (λ parts. are_whole parts ≡ true)

-- the bytes are an index of these paths and of some files under them
pub record IsIndex (paths : Paths) (bytes : List ℕ) : Type 0 where
  pub files : Files
  pub content : IsContent paths files
  pub under : LieUnder paths files
  pub is : bytes ≡ encoding paths files

-- The index of a walk: its paths are reduced, its files lie under them, and it has fewer than 2^32 bytes.
pub record IsReducedIndex (bytes : List ℕ) : Type 0 where
  pub paths : Paths
  pub index : IsIndex (least paths) bytes
  pub short : IsShort (Some bytes)

-- The bytes are the index of what a walk from the paths finds, if the tree is modelled.
abbrev pub IsIndexOf : Option Snapshot → Paths → List ℕ → Type 0
IsIndexOf tree paths bytes = IsModelled tree → bytes ≡ tree_index (modelled_snapshot tree) paths

-- That index has 2^32 bytes or more.
abbrev pub IsTreeTooLarge : Option Snapshot → Paths → Type 0
IsTreeTooLarge tree paths = IsModelled tree → IsLong (Some (tree_index (modelled_snapshot tree) paths))

-- A job's own index has the paths that the job walks, and fewer than 2^32 bytes. If the tree is modelled, it is the
-- index of what the job finds.
pub record IsOwnIndex (job : IndexJob) (tree : Option Snapshot) (old : Option (List ℕ))
    (own : List ℕ) : Type 0 where
  pub index : IsIndex (paths_of_job job old) own
  pub model : IsIndexOf tree (paths_of_job job old) own
  pub short : IsShort (Some own)

-- Why a job that walks is too large: its own index has 2^32 bytes or more; or it has one, every list of the base
-- index is whole, and the merged index has 2^32 bytes or more.
pub data IsNextLong (job : IndexJob) (tree : Option Snapshot) (old : Option (List ℕ)) : Type 0 where
  alone : IsTreeTooLarge tree (paths_of_job job old) → IsNextLong job tree old
  merged :
      (own : List ℕ) → IsOwnIndex job tree old own → HasWholeLists old → IsLong (next_index old own) →
      IsNextLong job tree old

-- A job that walks and succeeds leaves its own index, merged with the base index. No list of the base is damaged,
-- and the new index has fewer than 2^32 bytes.
pub record IsNext (job : IndexJob) (tree : Option Snapshot) (old new : Option (List ℕ)) : Type 0 where
  pub own : List ℕ
  pub own_is : IsOwnIndex job tree old own
  pub whole : HasWholeLists old
  pub is : new ≡ next_index old own
  pub short : IsShort new
