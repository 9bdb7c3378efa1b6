-- The open file of a tree as a source.
use Rattle.std.specs.Prelude.{◌≡◌, ◌≤◌, ℕ, ◌+◌, max, length, Option, Some, None, IsSomeAnd}
use Rattle.cs_tree.specs.StreamModels.{SourceModel}
use Rattle.cs_tree.specs.Snapshot.{Snapshot}
use Rattle.cs_tree.specs.ReadCounts.{ReadCounts}
use Rattle.cs_tree.specs.declared.tree.TreeReader.{TreeReader}

-- the current tree
abbrev pub tree_read : {T : Type 0} → TreeReader T → T
tree_read reader = reader.tree.now

-- the identity of the borrow of the tree, by which contracts relate a reader to the tree that it leaves behind
abbrev pub reference_read : {T : Type 0} → TreeReader T → ℕ
reference_read reader = reader.tree.ghost_name

-- the model of the open file, if the tree is modelled
abbrev pub open_model : Option Snapshot → Option SourceModel → Option SourceModel
open_model None opened = None
open_model (Some tree) opened = opened

-- the number of remaining bytes
abbrev pub count_left : Option SourceModel → ℕ
count_left None = 0
count_left (Some model) = length model.bytes

-- The file had `count` bytes in all: those that were read and those that remain. Since the counts `before`, at most
-- `before.most` bytes were read from any other file, and no path was looked up.
abbrev pub HasRead : ReadCounts → ℕ → Option SourceModel → Option ReadCounts → Type 0
HasRead before count opened counts = IsSomeAnd counts (λ (now : ReadCounts).
    (now.of_open + count_left opened ≡ count) × (now.most ≤ max before.most now.of_open) × (now.lookups ≡ before.lookups))
