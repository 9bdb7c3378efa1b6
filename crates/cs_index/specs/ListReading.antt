-- Posting lists of a store that are read one after another.
-- docs/FORMAT.md, "The index as it is read".
use Rattle.std.specs.Prelude.{◌≡◌, ◌+◌, ◌-◌, ℕ, List, drop, length, slice_get, Some}
use Rattle.cs_index.specs.Encoding.{ListEntry}
use Rattle.cs_index.specs.OpenedParts.{Parts, ids_read}
use Rattle.cs_index.specs.PostingLists.{Ids, read_list}
use Rattle.cs_index.specs.Tables.{TableParts}
use Rattle.cs_index.specs.Windows.{StandAt}

-- Bytes of a store that are in memory, and their offset.
pub record BytesAt : Type 0 where
  pub at : ℕ
  pub bytes : List ℕ

-- the store has these bytes at this offset
abbrev pub AreBytesOf : List ℕ → BytesAt → Type 0
AreBytesOf bytes read = StandAt bytes read.at read.bytes

-- the ids of an entry's list, which the bytes begin with
abbrev pub list_in : List ℕ → ℕ → ListEntry → Ids
list_in bytes name_count e = read_list bytes name_count (record { trigram = e.trigram; count = e.count; offset = 0 })

-- the ids of an entry's list, by the bytes in memory
abbrev pub known_ids : TableParts → BytesAt → ListEntry → Ids
known_ids tables read e = list_in (drop (tables.starts.postings + e.offset - read.at) read.bytes) (length tables.names) e

-- the whole list of the entry at this position is in memory, if there is one
abbrev pub HasList : TableParts → BytesAt → Parts → ℕ → Type 0
HasList tables read parts position = (e : ListEntry) → slice_get parts.entries position ≡ Some e →
    known_ids tables read e ≡ ids_read parts e
