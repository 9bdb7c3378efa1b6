-- What reading files leaves of a tree.
use Rattle.std.specs.Prelude.{◌≡◌, ◌+◌, ℕ, List, Option}
use Rattle.cs_tree.specs.Clean.{longest_path}
use Rattle.cs_tree.specs.ReadCounts.{ReadCounts}
use Rattle.cs_tree.specs.Reads.{ReadsWithin}
use Rattle.cs_tree.specs.Snapshot.{Snapshot}
use Rattle.cs_tree.specs.Trees.{RequestsPath}
use Rattle.cs_tree.specs.Walks.{RequestsWithin}
use Rattle.cs_trigram.specs.Text.{limits}

module _ {T : Type 0} (snapshot : T → Option Snapshot) (longest : T → Option ℕ) (counts : T → Option ReadCounts) where
  -- The file at a path was requested, and no more of it was read than a scan reads. No path was looked up, and the model is
  -- the same.
  abbrev pub ReadsFile : List ℕ → T → T → Type 0
  ReadsFile path old new =
      RequestsPath (longest old) (longest new) path
      × ReadsWithin (limits.bytes + 1) (counts old) (counts new)
      × (snapshot new ≡ snapshot old)

  -- the same of files at paths of at most 4095 bytes
  abbrev pub ReadsFiles : T → T → Type 0
  ReadsFiles old new =
      RequestsWithin longest_path (longest old) (longest new)
      × ReadsWithin (limits.bytes + 1) (counts old) (counts new)
      × (snapshot new ≡ snapshot old)
