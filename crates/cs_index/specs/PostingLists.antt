-- Decoding of posting lists: the ids up to the first damage, and the trigrams of each name.
-- docs/FORMAT.md, "The index as it is read".
use Rattle.std.specs.Prelude.{ℕ, zero, suc, ◌+◌, ◌-◌, ◌*◌, ◌^◌, Bool, false, nat_eq, nat_lt, ◌&&◌, if◌then◌else◌, List, [], ◌∷◌, map, take, drop, Option, Some, None, option_map, filter, bytes_eq}
use Rattle.cs_trigram.specs.Trigram.{has}
use Rattle.cs_index.specs.Encoding.{three_bytes, ListEntry, Entry, PostingList}

-- the varint of at most `room` bytes that the bytes begin with, and the rest
abbrev pub varint_at : ℕ → List ℕ → Option (ℕ × List ℕ)
varint_at zero bytes = None
varint_at (suc room) [] = None
varint_at (suc room) (b ∷ bytes) =
    if nat_lt b 128 then Some (b, bytes)
    else option_map (λ ((high, rest) : ℕ × List ℕ). (b - 128 + 128 * high, rest)) (varint_at room bytes)

-- the same, if the number is less than 2^32
abbrev pub read_varint : List ℕ → Option (ℕ × List ℕ)
read_varint bytes =
    elim (varint_at 5 bytes) [ None ↦ None | Some n ↦ if nat_lt n.0 (2 ^ 32) then Some n else None ]

-- The ids of a posting list up to the first damage, and whether it is whole.
pub record Ids : Type 0 where
  pub ids : List ℕ
  pub whole : Bool

abbrev pub damage : Ids
damage = record { ids = []; whole = false }

abbrev pub onto : ℕ → Ids → Ids
onto id rest = record { ids = id ∷ rest.ids; whole = rest.whole }

-- `count` ids and a closing zero. A missing varint, a delta of zero, or an id that no name has is damage.
-- `next` is one more than the id before.
abbrev pub read_ids : ℕ → ℕ → ℕ → List ℕ → Ids
read_ids name_count zero next bytes =
    record { ids = []; whole = elim (read_varint bytes) [ None ↦ false | Some n ↦ nat_eq n.0 0 ] }
read_ids name_count (suc count) next bytes =
    elim (read_varint bytes) [
      | None ↦ damage
      | Some (delta, rest) ↦ if nat_lt 0 delta && nat_lt (next + delta) (name_count + 1)
          then onto (next + delta - 1) (read_ids name_count count (next + delta) rest) else damage
    ]

-- the posting list of an entry: its trigram, then the ids
abbrev pub read_list : List ℕ → ℕ → ListEntry → Ids
read_list postings name_count e =
    if bytes_eq (take 3 (drop e.offset postings)) (three_bytes e.trigram)
    then read_ids name_count e.count 0 (drop (e.offset + 3) postings) else damage

-- the trigrams of the lists that contain the id
abbrev pub set_at : ℕ → List PostingList → List ℕ
set_at id lists = map (λ ((g, ids) : PostingList). g) (filter (λ ((g, ids) : PostingList). has ids id) lists)

-- names with their trigrams; the first name has the id `first`
abbrev pub entries_of : ℕ → List (List ℕ) → List PostingList → List Entry
entries_of first [] lists = []
entries_of first (name ∷ names) lists = (name, set_at first lists) ∷ entries_of (first + 1) names lists
