-- The old index of a merge, whose tables are in memory, and whose lists are read from a store in their order.
-- docs/PROMISES.md, "Merging".
use Rattle.std.proofs.Math.ListN.{replicate}
use Rattle.std.specs.Prelude.{◌≡◌, ℕ, true, List, nat_eq, if◌then◌else◌, Option, Some, slice_get}
use Rattle.std.specs.Option.{option_map_or}
use Rattle.cs_index.specs.Encoding.{ListEntry, PostingList}
use Rattle.cs_index.specs.ListReading.{AreBytesOf, BytesAt, known_ids}
use Rattle.cs_index.specs.OpenedParts.{Parts, lists_in}
use Rattle.cs_index.specs.PostingLists.{Ids}
use Rattle.cs_index.specs.Postings.{nothing_read}
use Rattle.cs_index.specs.Tables.{TableParts, TablesIn, lists_room}
use Rattle.cs_index.specs.Written.{Written}
use Rattle.cs_merge.specs.IdMap.{NewIds, AreMappedLists}
use Rattle.cs_merge.specs.ListMerge.{list_trigram, lower_of, AreLeft, AreMergedLists}
use Rattle.cs_merge.specs.Mergeable.{both_whole}

-- the parts of an index as far as they are in memory, with zeros for its posting lists
abbrev pub known_parts : TableParts → Parts
known_parts tables = record { paths = tables.paths; names = tables.names; entries = tables.entries; postings = replicate (lists_room tables) 0 }

-- The store has the index of these parts, and the tables are its tables.
pub record IsStored (model : Option (List ℕ)) (tables : TableParts) (parts : Parts) : Type 0 where
  pub bytes : List ℕ
  pub known : model ≡ Some bytes
  pub tables_are : TablesIn bytes tables parts

-- the bytes that were read are those of the store
abbrev pub AreRead : Option (List ℕ) → BytesAt → Type 0
AreRead model read = (bytes : List ℕ) → model ≡ Some bytes → AreBytesOf bytes read

-- the ids of the list at a position, by the bytes that were read; none if that list has another trigram
abbrev pub old_ids : TableParts → BytesAt → ℕ → ℕ → Ids
old_ids tables read position trigram =
    option_map_or (λ (e : ListEntry). if nat_eq e.trigram trigram then known_ids tables read e else nothing_read)
    (slice_get tables.entries position) nothing_read

-- the least trigram of the lists from two positions on
abbrev pub next_trigram : TableParts → Parts → ℕ → ℕ → Option ℕ
next_trigram tables newer older_position newer_position =
    lower_of (list_trigram (known_parts tables) older_position) (list_trigram newer newer_position)

-- The lists before these positions are written, and where the parts of the old index are known, they are the merged ones.
pub record IsMergingLists (model : Option (List ℕ)) (tables : TableParts) (read : BytesAt) (newer : Parts)
    (older_ids newer_ids : NewIds) (before now : Written) (older_position newer_position : ℕ) : Type 0 where
  pub paths : now.paths ≡ before.paths
  pub names : now.names ≡ before.names
  pub left : AreLeft tables.entries newer.entries now.lists older_position newer_position
  pub read_so_far : AreRead model read
  pub known : (older : Parts) → IsStored model tables older →
      AreMergedLists older newer older_ids newer_ids before now older_position newer_position

-- All lists of both indexes are merged.
pub record AreAllMerged (older newer : Parts) (older_ids newer_ids : NewIds) (lists : List PostingList) : Type 0 where
  pub older_sets : AreMappedLists older_ids (lists_in older) lists
  pub newer_sets : AreMappedLists newer_ids (lists_in newer) lists
  pub whole : both_whole older newer ≡ true
