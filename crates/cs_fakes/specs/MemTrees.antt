-- The snapshot of a tree in memory, which is stored as a list of items with their paths.
use Rattle.std.specs.Prelude.{ℕ, List, [], Option, Some, None, map, string_bytes, drop, true, false, slice_get, option_and_then}
use Rattle.std.specs.FinMap as map'
use Rattle.cs_tree.specs.Snapshot.{Snapshot, Item, folder, file, cut, other, bad, denied}
use Rattle.cs_tree.specs.StreamModels.{SourceModel, source_model}
use Rattle.cs_tree.specs.ReadCounts.{ReadCounts}
use Rattle.cs_fakes.specs.declared.mem_tree.Item.{Item as Put}
use Rattle.cs_fakes.specs.declared.mem_tree.Item.TheVariants as put
use Rattle.cs_fakes.specs.declared.types.MemTree.{MemTree}
use Rattle.cs_fakes.specs.declared.types.Names.{Names}
use Rattle.cs_fakes.specs.declared.types.MemEntry.{MemEntry}
use Rattle.cs_fakes.specs.declared.types.MemItem.{MemItem}
use Rattle.cs_fakes.specs.declared.types.MemItem.TheVariants.{Folder, File, Cut, Other, Denied}

-- an item to put, as an item of a snapshot
abbrev pub item_put : Put → Item
item_put put.Folder = folder [] false
item_put (put.File bytes) = file bytes.items
item_put (put.Cut bytes) = cut bytes.items
item_put put.Other = other
item_put put.Denied = bad denied

abbrev pub mem_names : Names → List (List ℕ)
mem_names names = map string_bytes names.list.items

abbrev pub item_of : MemItem → Item
item_of (Folder names) = folder (mem_names names) false
item_of (File bytes) = file bytes.items
item_of (Cut bytes) = cut bytes.items
item_of Other = other
item_of Denied = bad denied

abbrev pub pair_of : MemEntry → List ℕ × Item
pair_of entry = (string_bytes entry.path, item_of entry.item)

unfoldable pub snapshot_of : List MemEntry → Snapshot
snapshot_of items = map'.from_entries (map pair_of items)

-- the model of a stored file from which some bytes have been read
abbrev pub left_of : ℕ → MemItem → Option SourceModel
left_of consumed (File bytes) = Some (source_model (drop consumed bytes.items) false)
left_of consumed (Cut bytes) = Some (source_model (drop consumed bytes.items) true)
left_of consumed _ = None

abbrev pub left_at : List MemEntry → ℕ → Option ℕ → Option SourceModel
left_at items consumed None = None
left_at items consumed (Some i) = option_and_then (λ (s : MemEntry). left_of consumed s.item) (slice_get items i)

-- ---- the tree

-- the snapshot of a tree in memory
abbrev pub mem_snapshot : MemTree → Snapshot
mem_snapshot tree = snapshot_of tree.items.items

-- the model of the open file
abbrev pub left_open : MemTree → Option SourceModel
left_open tree = left_at tree.items.items tree.consumed tree.opened

-- the read counts of a new tree
abbrev pub no_reads : ReadCounts
no_reads = record { of_open = 0; most = 0; lookups = 0 }

-- the read counts
abbrev pub mem_read_counts : MemTree → ReadCounts
mem_read_counts tree = record { of_open = tree.consumed; most = tree.most_read; lookups = tree.lookups }

-- the most bytes of one read
abbrev pub mem_tree_step : MemTree → ℕ
mem_tree_step tree = tree.step
