-- Posting lists that are read from a store by offset, in pieces.
-- docs/FORMAT.md, "The index as it is read".
use Rattle.std.specs.Prelude.{◌≡◌, ◌<◌, ◌≤◌, ◌^◌, ℕ, ◌+◌, ◌-◌, Bool, List, [], ◌++◌, length, drop, Option, Some, None, if◌then◌else◌}
use Rattle.std.specs.List.{AllByRecursion}
use Rattle.cs_tree.specs.Store.{part_of}
use Rattle.cs_index.specs.AscendingIds.{BeginsFrom, max_ids}
use Rattle.cs_index.specs.ListDecoding.{HaveVarint}
use Rattle.cs_index.specs.PostingLists.{Ids, onto, read_ids}
use Rattle.cs_index.specs.declared.reading.stored_list.StoredList.TheInside.{Inside}

-- A list that is read in part: the offset of its next byte in the store, the end of the section, and the bytes that
-- are read ahead. If it has ended, whether it is whole.
pub record ListState : Type 0 where
  pub piece : List ℕ
  pub at : ℕ
  pub stop : ℕ
  pub left : ℕ
  pub next : ℕ
  pub name_count : ℕ
  pub has_ended : Bool
  pub is_whole : Bool

-- the bytes from the next one to the end of the section
abbrev pub bytes_left : List ℕ → ListState → List ℕ
bytes_left bytes list = part_of bytes list.at (list.stop - list.at)

-- the ids that are left of the list, in a store of these bytes
abbrev pub ids_left : List ℕ → ListState → Ids
ids_left bytes list = if list.has_ended then record { ids = []; whole = list.is_whole }
    else read_ids list.name_count list.left list.next (bytes_left bytes list)

-- the piece is the first of the bytes that are left
abbrev pub Holds : List ℕ → ListState → Type 0
Holds bytes list = (more : List ℕ) × (bytes_left bytes list ≡ list.piece ++ more)

-- and it has a whole varint, or all of them
abbrev pub IsReady : List ℕ → ListState → Type 0
IsReady bytes list = (more : List ℕ) × (bytes_left bytes list ≡ list.piece ++ more) × HaveVarint list.piece more

-- the same list with another piece
abbrev pub with_piece : ListState → List ℕ → ListState
with_piece list piece = record list { piece = piece }

-- The next id is less than `end` and is taken from the list, or there is none and the list has the same ids as before.
abbrev pub GivesBelow : List ℕ → ℕ → ListState → ListState → Option ℕ → Type 0
GivesBelow bytes end list rest (Some id) = Holds bytes rest × (ids_left bytes list ≡ onto id (ids_left bytes rest)) × (id < end)
GivesBelow bytes end list rest None =
    Holds bytes rest × (ids_left bytes rest ≡ ids_left bytes list) × BeginsFrom end (ids_left bytes list).ids

-- ids prepended to a list
abbrev pub before : List ℕ → Ids → Ids
before ids read = record { ids = ids ++ read.ids; whole = read.whole }

-- ids less than `end` are taken from the list
abbrev pub SkipsBelow : List ℕ → ℕ → ListState → ListState → Type 0
SkipsBelow bytes end list rest =
    Holds bytes rest × (skipped : List ℕ) × (ids_left bytes list ≡ before skipped (ids_left bytes rest)) ×
    AllByRecursion (λ id. id < end) skipped

-- the state that the fields of a list are
abbrev pub state_of : Inside → ListState
state_of s = record {
  piece = drop s.used s.window.piece.items;
  at = s.window.start + s.used;
  stop = s.stop;
  left = s.decoder.left;
  next = s.decoder.next;
  name_count = s.decoder.name_count;
  has_ended = s.has_ended;
  is_whole = s.is_whole;
}

-- The offsets, the ids and the piece of a list are within their bounds.
pub record IsStoredList (s : Inside) : Type 0 where
  pub used_within : s.used ≤ length s.window.piece.items
  pub within : s.window.start + length s.window.piece.items ≤ s.stop
  pub short : s.stop < 2 ^ 63
  pub room : 5 ≤ s.size
  pub ids : s.decoder.next ≤ s.decoder.name_count
  pub bound : s.decoder.name_count < max_ids
