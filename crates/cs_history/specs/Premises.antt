-- The premises of the main promise. docs/PROMISES.md, "The main promise".
use Rattle.std.specs.Prelude.{◌≡◌, ◌<◌, ◌^◌, ℕ, List, Option, IfSome, length, unwrap_or}
use Rattle.cs_tree.specs.Folders.{IsModelled}
use Rattle.std.specs.List.{AllByRecursion}
use Rattle.cs_tree.specs.Snapshot.{Snapshot}
use Rattle.cs_history.specs.History.{History, index_of}
use Rattle.cs_history.specs.WellFormed.{IsHistory}
use Rattle.std.specs.FinMap as map'

-- the snapshot that models a tree
abbrev pub modelled_snapshot : Option Snapshot → Snapshot
modelled_snapshot snapshot = unwrap_or snapshot map'.empty

-- the index has less than 2^32 bytes, if there is one
abbrev pub IsShort : Option (List ℕ) → Type 0
IsShort index = IfSome index (λ bytes. length bytes < 2 ^ 32)

-- Each tree is modelled, and the index is that of the earlier jobs. Without earlier jobs it is an existing one, or
-- there is none.
pub record Premises (trees : List (Option Snapshot)) (index : Option (List ℕ)) (earlier : History) : Type 0 where
  pub trees_modelled : AllByRecursion IsModelled trees
  pub is_history : IsHistory earlier
  pub is_index : index_of earlier ≡ index
  pub short : IsShort index
