-- Maps from old ids to the ids of the merged index.
-- docs/PROMISES.md, "Merging"; index/merge.go, "idMap".
use Rattle.std.specs.Prelude.{◌≡◌, ℕ, ◌+◌, ◌-◌, ◌<◌, ◌≤◌, Bool, true, false, List, [], Option, Some, None, slice_get, slice_index, length, option_map}
use Rattle.cs_tree.specs.NamesAscending.{are_ascending}
use Rattle.cs_index.specs.Built.{is_above}
use Rattle.cs_index.specs.Written.{Written}
use Rattle.cs_merge.specs.SortedNames.{SortedNames, id_of_rank, sorted_names}
use Rattle.cs_index.specs.Encoding.{PostingList}
use Rattle.cs_index.specs.PostingLists.{Ids, set_at}
pub use Rattle.cs_index.specs.MappedIds.{NewIds, new_id, new_ids_of}

-- the same for a list that is being read
abbrev pub new_ids_read : NewIds → Ids → Ids
new_ids_read new_ids read = record { ids = new_ids_of new_ids read.ids; whole = read.whole }

-- the map is increasing on the ids that it keeps
abbrev pub IsIncreasing : NewIds → Type 0
IsIncreasing new_ids = (low high a b : ℕ) → low < high → new_id new_ids low ≡ Some a → new_id new_ids high ≡ Some b →
    a < b

-- no two ids have the same new id
abbrev pub IsInjective : NewIds → Type 0
IsInjective new_ids = (id other new : ℕ) → new_id new_ids id ≡ Some new → new_id new_ids other ≡ Some new → id ≡ other

-- no id of one map has the new id of an id of the other map
abbrev pub AreDisjoint : NewIds → NewIds → Type 0
AreDisjoint older newer = (id other new : ℕ) → new_id older id ≡ Some new → new_id newer other ≡ Some new → ⊥

-- all new ids are below the count
abbrev pub StayBelow : ℕ → NewIds → Type 0
StayBelow count new_ids = (id new : ℕ) → new_id new_ids id ≡ Some new → new < count

-- the map shifts all ids of the range by one distance, or drops all of them
abbrev pub IsRun : NewIds → ℕ → ℕ → Type 0
IsRun new_ids id end = (other : ℕ) → id ≤ other → other < end →
    new_id new_ids other ≡ option_map (λ new. new + (other - id)) (new_id new_ids id)

-- each entry is the end of a run that begins at its id
abbrev pub AreRunEnds : NewIds → List ℕ → Type 0
AreRunEnds new_ids ends = (id end : ℕ) → slice_get ends id ≡ Some end → IsRun new_ids id end

-- What `IdRuns` keeps of a map: the ends of its runs, and whether it is increasing.
pub record AreIdRuns (new_ids : NewIds) (ends : List ℕ) (is_increasing : Bool) : Type 0 where
  pub ends_are : AreRunEnds new_ids ends
  pub order : is_increasing ≡ true → IsIncreasing new_ids

-- No two ids of both indexes have the same new id.
pub record AreUnique (older newer : NewIds) : Type 0 where
  pub older_once : IsInjective older
  pub newer_once : IsInjective newer
  pub apart : AreDisjoint older newer

-- Two maps into an index with `count` names.
pub record AreIdMaps (count : ℕ) (older newer : NewIds) : Type 0 where
  pub once : AreUnique older newer
  pub older_below : StayBelow count older
  pub newer_below : StayBelow count newer

-- ---- names

-- the file is dropped, or its name is at its new id
abbrev pub IsMapped : (List ℕ → Bool) → List (List ℕ) → List ℕ → Option ℕ → Type 0
IsMapped is_dropped names name None = is_dropped name ≡ true
IsMapped is_dropped names name (Some new) = (is_dropped name ≡ false) × (slice_get names new ≡ Some name)

-- the new ids are correct for the names of an index whose ids the map covers
abbrev pub AreMapped : (List ℕ → Bool) → List (List ℕ) → List (List ℕ) → NewIds → Type 0
AreMapped is_dropped own names new_ids =
    (id : ℕ) (name : List ℕ) (new : Option ℕ) → slice_get own id ≡ Some name → slice_get new_ids id ≡ Some new →
    IsMapped is_dropped names name new

-- all old names like these are dropped
abbrev pub AreDropped : (List ℕ → Bool) → List (List ℕ) → Type 0
AreDropped is_dropped names = (id : ℕ) (name : List ℕ) → slice_get names id ≡ Some name → is_dropped name ≡ true

-- ---- posting lists

-- each file that is kept has, by its new id, the trigrams that it had
abbrev pub AreMappedLists : NewIds → List PostingList → List PostingList → Type 0
AreMappedLists new_ids lists given = (id new : ℕ) → new_id new_ids id ≡ Some new → set_at new given ≡ set_at id lists

-- ---- merged names

-- the name is in the newer index, or in the old one and not dropped
pub data IsOfEither (is_dropped : List ℕ → Bool) (older newer : List (List ℕ)) (name : List ℕ) : Type 0 where
  new : (id : ℕ) → slice_get newer id ≡ Some name → IsOfEither is_dropped older newer name
  kept : (id : ℕ) → slice_get older id ≡ Some name → is_dropped name ≡ false → IsOfEither is_dropped older newer name

-- The names ascend, each is a name of one of the two indexes, and both maps are correct for the ids that they cover.
pub record AreNamesOfBoth (is_dropped : List ℕ →
    Bool) (older newer names : List (List ℕ)) (older_ids newer_ids : NewIds) : Type 0 where
  pub ascend : are_ascending names ≡ true
  pub older_mapped : AreMapped is_dropped older names older_ids
  pub newer_mapped : AreMapped (λ name. false) newer names newer_ids
  pub each_from : (position : ℕ) (name : List ℕ) → slice_get names position ≡ Some name → IsOfEither is_dropped older newer name

-- The names that are merged so far: those of the ids that the maps cover.
pub record AreNamesSoFar (is_dropped : List ℕ →
    Bool) (older newer names : List (List ℕ)) (older_ids newer_ids : NewIds) : Type 0 where
  pub of_both : AreNamesOfBoth is_dropped older newer names older_ids newer_ids
  pub older_within : length older_ids ≤ length older
  pub newer_within : length newer_ids ≤ length newer
  pub bound : length names ≤ length older_ids + length newer_ids
  -- each remaining name is above all merged names
  pub older_left : (position : ℕ) (name : List ℕ) → length older_ids ≤ position → slice_get older position ≡ Some name →
      is_dropped name ≡ false → is_above names name ≡ true
  pub newer_left : (position : ℕ) (name : List ℕ) → length newer_ids ≤ position → slice_get newer position ≡ Some name →
      is_above names name ≡ true

-- the first `count` entries of the permutation are scattered
abbrev pub AreScattered : List ℕ → NewIds → ℕ → NewIds → Type 0
AreScattered ids ranks count new_ids = (position : ℕ) → position < count → slice_get new_ids (slice_index ids position)
    ≡ slice_get ranks position

-- A map of ids that agrees with a map of ranks.
pub record AreByRank (ordered : SortedNames) (ranks new_ids : NewIds) : Type 0 where
  pub long : length new_ids ≡ length ranks
  pub at : (position id : ℕ) → id_of_rank ordered position ≡ Some id → position < length ranks →
      slice_get new_ids id ≡ slice_get ranks position

-- All names of both are merged, and the maps cover all ids.
pub record AreMergedNames (is_dropped : List ℕ →
    Bool) (older newer names : List (List ℕ)) (older_ids newer_ids : NewIds) : Type 0 where
  pub of_both : AreNamesOfBoth is_dropped older newer names older_ids newer_ids
  pub older_long : length older_ids ≡ length older
  pub newer_long : length newer_ids ≡ length newer

-- The names of both are written so far, by rank, and no list is written yet.
pub record IsMergingNames (is_dropped : List ℕ → Bool) (older newer : SortedNames) (before now : Written)
    (older_ranks newer_ranks : NewIds) : Type 0 where
  pub named : AreNamesSoFar is_dropped (sorted_names older) (sorted_names newer) now.names older_ranks newer_ranks
  pub paths : now.paths ≡ before.paths
  pub unlisted : now.lists ≡ []
  pub sent : now.sent ≡ before.sent
