-- One step of decoding a posting list.
-- docs/FORMAT.md, "The index as it is read".
use Rattle.std.specs.Prelude.{◌≡◌, ◌<◌, ◌≤◌, ◌⊎◌, ℕ, ◌+◌, ◌-◌, List, [], ◌++◌, length, drop}
use Rattle.cs_index.specs.MappedIds.{NewIds, new_ids_of}
use Rattle.cs_index.specs.PostingLists.{Ids, onto, read_ids}
use Rattle.cs_index.specs.declared.reading.postings.ListDecoder.{ListDecoder}
use Rattle.cs_index.specs.declared.reading.postings.Step.{Step}
use Rattle.cs_index.specs.declared.reading.postings.Step.TheVariants.{Id, End}

-- the ids of the bytes that follow
abbrev pub ids_ahead : ListDecoder → List ℕ → Ids
ids_ahead d bytes = read_ids d.name_count d.left d.next bytes

-- the list after an id
abbrev pub after_id : ListDecoder → ℕ → ListDecoder
after_id d id = record d { left = d.left - 1; next = id + 1 }

-- the bytes have a whole varint, or nothing is left after them
abbrev pub HaveVarint : List ℕ → List ℕ → Type 0
HaveVarint bytes more = (5 ≤ length bytes) ⊎ (more ≡ [])

-- The bytes begin with a varint of this length, which is the next id, and the list goes on after it.
pub record IsNextId (d : ListDecoder) (bytes : List ℕ) (id len : ℕ) : Type 0 where
  pub some : 0 < d.left
  pub from : d.next ≤ id
  pub below : id < d.name_count
  pub within : len ≤ length bytes
  pub ids : (more : List ℕ) → HaveVarint bytes more →
      ids_ahead d (bytes ++ more) ≡ onto id (ids_ahead (after_id d id) (drop len bytes ++ more))

-- what follows in a list: its next id, or its end, whole or damaged
abbrev pub IsStep : ListDecoder → List ℕ → Step → Type 0
IsStep d bytes (Id id len) = IsNextId d bytes id len
IsStep d bytes (End whole) =
    (more : List ℕ) → HaveVarint bytes more → ids_ahead d (bytes ++ more) ≡ record { ids = []; whole = whole }

-- The first ids of a list are read, each from one byte, and their new ids are appended.
pub record AreMappedBytes (d : ListDecoder) (bytes : List ℕ) (new_ids : NewIds) (count next : ℕ) (out mapped : List ℕ) : Type 0 where
  pub within : count ≤ length bytes
  pub few : count ≤ d.left
  pub named : next ≤ d.name_count
  pub ids : mapped ++ new_ids_of new_ids (read_ids d.name_count (d.left - count) next (drop count bytes)).ids
      ≡ out ++ new_ids_of new_ids (ids_ahead d bytes).ids
  pub whole : (read_ids d.name_count (d.left - count) next (drop count bytes)).whole ≡ (ids_ahead d bytes).whole
  pub fewer : length (read_ids d.name_count (d.left - count) next (drop count bytes)).ids ≤ length (ids_ahead d bytes).ids
