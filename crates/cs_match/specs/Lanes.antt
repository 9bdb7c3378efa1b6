-- Lanes: each scans a chunk of a block, and lists the ends of its matching lines.
use Rattle.std.specs.Prelude.{ℕ, ◌≡◌, ◌≢◌, ◌<◌, ◌≤◌, ◌+◌, ◌*◌, ◌/◌, ◌⊎◌, Bool, List, length, take, slice_index, slice_index_or, slice_range}
use Rattle.cs_match.specs.declared.lanes.Table.{Table}
use Rattle.cs_match.specs.declared.lanes.Lane.{Lane}
use Rattle.cs_match.specs.LastPart.{last_part}
use Rattle.cs_match.specs.MatchingEnds.{matching_ends, newlines_between}
use Rattle.cs_match.specs.Skipped.{AreLinesBetween}
use Rattle.cs_match.specs.Table.{number_after, unknown, IsRow, BeginsLine, TellsLines}

-- the state is that after a part of a line
pub record IsInLine (t : Table) (part : List ℕ) (number : ℕ) : Type 0 where
  pub first : ℕ
  pub begins : BeginsLine t first
  pub after : number ≡ number_after t first part

-- The lane has moved up to an offset of the block, and `ends` begins with its list. Once it has met an unknown transition,
-- it has listed no more ends than there are newlines.
pub record IsLane (t : Table) (block : List ℕ) (to : ℕ) (lane : Lane) (ends : List ℕ) : Type 0 where
  pub low : lane.from ≤ to
  pub row : IsRow t lane.number
  pub few : lane.count ≤ newlines_between block lane.from to
  pub listed : (has_match : List ℕ → Bool) → TellsLines has_match t → lane.number ≢ unknown t →
      take lane.count ends ≡ matching_ends has_match block lane.from to
  pub in_line : (has_match : List ℕ → Bool) → TellsLines has_match t → lane.number ≢ unknown t →
      IsInLine t (last_part (slice_range block lane.from to)) lane.number

-- a chunk is some whole lines, at most so many
pub record IsChunk (block : List ℕ) (most from to : ℕ) : Type 0 where
  pub lines : AreLinesBetween block from to
  pub few : newlines_between block from to ≤ most

-- the offsets are those between which four chunks lie
abbrev pub AreChunks : List ℕ → ℕ → List ℕ → Type 0
AreChunks block most cuts = (k : ℕ) → k < 4 → IsChunk block most (slice_index cuts k) (slice_index cuts (k + 1))

-- a chunk of this size: the fewest whole lines with more bytes, or all lines of the block if they have no more
pub record IsCut (block : List ℕ) (size from to : ℕ) : Type 0 where
  pub lines : AreLinesBetween block from to
  pub long : (from + size < to) ⊎ (to ≡ length block)
  pub fewest : (other : ℕ) → AreLinesBetween block from other → from + size < other → to ≤ other

-- the offsets between four such chunks
pub record AreCuts (block : List ℕ) (size from : ℕ) (cuts : List ℕ) : Type 0 where
  pub first : slice_index cuts 0 ≡ from
  pub each : (k : ℕ) → k < 4 → IsCut block size (slice_index cuts k) (slice_index cuts (k + 1))

-- a quarter of the list
abbrev pub quarter : ℕ → List ℕ → List ℕ
quarter k ends = slice_range ends (k * (length ends / 4)) ((k + 1) * (length ends / 4))

-- a lane has moved over its chunk, and its list is in its quarter
pub record IsLaneOf (t : Table) (block cuts ends : List ℕ) (k : ℕ) (of : Lane) : Type 0 where
  pub from : of.from ≡ slice_index cuts k
  pub lane : IsLane t block (slice_index cuts (k + 1)) of (quarter k ends)

-- so have all four
abbrev pub AreLanes : Table → List ℕ → List ℕ → List Lane → List ℕ → Type 0
AreLanes t block cuts lanes ends = (k : ℕ) (other : Lane) → k < 4 → IsLaneOf t block cuts ends k (slice_index_or lanes k other)

-- `ends` begins with a list: the ends of the matching lines between the offsets, by each test of a kind
pub record AreListed (IsKind : (List ℕ → Bool) → Type 0) (block : List ℕ) (from to count : ℕ) (ends : List ℕ) : Type 0 where
  pub lines : AreLinesBetween block from to
  pub few : count ≤ newlines_between block from to
  pub room : count ≤ length ends
  pub listed : (has_match : List ℕ → Bool) → IsKind has_match → take count ends ≡ matching_ends has_match block from to
