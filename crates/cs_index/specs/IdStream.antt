-- A stream: the ids of a posting list as varint deltas.
use Rattle.std.specs.Prelude.{◌≡◌, ℕ, ◌+◌, ◌-◌, Bool, false, ◌||◌, List, [], ◌∷◌, ◌++◌, length, slice_index_or}
use Rattle.cs_trigram.specs.Trigram.{has}
use Rattle.cs_index.specs.AscendingIds.{AscendWithin, ids_onward, max_ids, next_after}
use Rattle.cs_index.specs.PostingLists.{read_ids}
use Rattle.cs_index.specs.Encoding.{stream_of}

-- the ids that a stream encodes
unfoldable pub ids_in : List ℕ → ℕ → List ℕ
ids_in stream count = (read_ids max_ids count 0 (stream ++ 0 ∷ [])).ids

pub record IsStream (stream : List ℕ) (count next : ℕ) : Type 0 where
  pub written : stream ≡ stream_of (ids_in stream count)
  pub counted : count ≡ length (ids_in stream count)
  pub rise : AscendWithin max_ids 0 (ids_in stream count)
  pub follows : next ≡ next_after 0 (ids_in stream count)

-- the ids that deltas encode; `next` is one more than the id before
abbrev pub ids_by_deltas : ℕ → List ℕ → List ℕ
ids_by_deltas next [] = []
ids_by_deltas next (delta ∷ deltas) = (next + delta - 1) ∷ ids_by_deltas (next + delta) deltas

-- The row with a flag for each of the ids, where the id 0 has the flag `at`.
pub record IsMarked (at : ℕ) (ids : List ℕ) (row marked : List Bool) : Type 0 where
  pub width : length marked ≡ length row
  pub flags : (k : ℕ) → slice_index_or marked k false ≡ (slice_index_or row k false || has (ids_onward at ids) k)
