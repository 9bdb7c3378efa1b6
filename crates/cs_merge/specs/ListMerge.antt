-- The merge of posting lists, by trigram and then by id.
use Rattle.std.specs.Prelude.{◌≡◌, ℕ, ◌+◌, ◌<◌, ◌≤◌, Bool, true, nat_eq, nat_lt, if◌then◌else◌, ◌||◌, List, [], ◌∷◌, ◌++◌, length, take, Option, Some, None, slice_get, option_map, Result, MatchResult}
use Rattle.std.specs.List.{list_all, AllByRecursion}
use Rattle.std.specs.Option.{option_map_or}
use Rattle.cs_trigram.specs.Trigram.{has}
use Rattle.cs_index.specs.AscendingIds.{next_after, AscendWithin, BeginsFrom, ids_onward}
use Rattle.cs_index.specs.Encoding.{ListEntry, PostingList}
use Rattle.cs_index.specs.Written.{Written, AllBelow, last_ids, with_last_ids}
use Rattle.cs_index.specs.OpenedParts.{Parts, ids_read, lists_in}
use Rattle.cs_trigram.specs.TrigramSets.{AreDistinct}
use Rattle.cs_index.specs.PostingLists.{Ids}
use Rattle.cs_index.specs.Postings.{nothing_read, IsListFault}
use Rattle.cs_index.specs.declared.fault.IndexFault.{IndexFault}
use Rattle.cs_index.specs.Gathering.{list_of}
use Rattle.cs_merge.specs.IdMap.{NewIds, new_id, AreMappedLists}

-- the minimum of two optional numbers
abbrev pub lower_of : Option ℕ → Option ℕ → Option ℕ
lower_of None other = other
lower_of (Some one) None = Some one
lower_of (Some one) (Some other) = if nat_lt other one then Some other else Some one

-- the list without its first number, if that is this number
abbrev pub without_number : ℕ → List ℕ → List ℕ
without_number number [] = []
without_number number (one ∷ rest) = if nat_eq one number then rest else one ∷ rest

-- the remaining ids once `id` is read
abbrev pub ids_after : ℕ → Ids → Ids
ids_after id read = record { ids = without_number id read.ids; whole = read.whole }

-- the new id of an id that is kept
abbrev pub new_of : Option (ℕ × ℕ) → Option ℕ
new_of next = option_map (λ (kept : ℕ × ℕ). kept.1) next

-- The first new id is that of the id read last; if there is none, the list was read to its end.
pub record IsMappedPostings (new_ids : NewIds) (first : Option ℕ) (last : ℕ) (rest : Ids) : Type 0 where
  pub first_is : (new : ℕ) → first ≡ Some new → new_id new_ids last ≡ Some new
  pub end : first ≡ None → (rest.ids ≡ []) × (rest.whole ≡ true)

-- A run of ids, relative to `id`, follows `id` in the list. Its ids are below the limit, if there is one.
pub record IsRunOf (id : ℕ) (limit : Option ℕ) (run ids rest : List ℕ) : Type 0 where
  pub ids_are : without_number id ids ≡ ids_onward (id + 1) run ++ without_number id rest
  pub below : (most : ℕ) → limit ≡ Some most → AllByRecursion (λ other. id + 1 + other < most) run

-- the number is below the limit, if there is one
abbrev pub IsBelow : Option ℕ → ℕ → Type 0
IsBelow limit id = (most : ℕ) → limit ≡ Some most → id < most

-- no id is below the limit; if there is none, there is no id
abbrev pub BeginFrom : Option ℕ → List ℕ → Type 0
BeginFrom None ids = ids ≡ []
BeginFrom (Some most) ids = BeginsFrom most ids

-- the answer of reading a list: there is one if it is whole
abbrev pub IsListAnswer : {A : Type 0} → Bool → Result A IndexFault → Type 0
IsListAnswer whole answer = MatchResult answer (λ _. whole ≡ true) (IsListFault whole)

-- the ids ascend, are those of names, and are above the last one of the list that was begun last
abbrev pub MayFollow : Written → List ℕ → Type 0
MayFollow sections ids = AscendWithin (length sections.names) (next_after 0 (last_ids sections)) ids

-- Ids that a list begins with, all below the limit, are appended to the list that was begun last.
pub record IsWrittenBelow (limit : Option ℕ) (before now : Written) (ids left : List ℕ) : Type 0 where
  pub given : List ℕ
  pub ids_are : ids ≡ given ++ left
  pub now_is : now ≡ with_last_ids before given
  pub below : AllByRecursion (IsBelow limit) given

-- the trigram of the list at a position of the list index
abbrev pub list_trigram : Parts → ℕ → Option ℕ
list_trigram parts position = option_map (λ (e : ListEntry). e.trigram) (slice_get parts.entries position)

-- the ids of the list at a position; none if that list has another trigram
abbrev pub list_ids : Parts → ℕ → ℕ → Ids
list_ids parts position trigram = option_map_or (λ (e : ListEntry). if nat_eq e.trigram trigram then
    ids_read parts e else nothing_read) (slice_get parts.entries position) nothing_read

-- the next position if the list at this one has the trigram, else this position
abbrev pub position_after : Parts → ℕ → ℕ → ℕ
position_after parts position trigram = option_map_or (λ (e : ListEntry). if nat_eq e.trigram trigram then
    position + 1 else position) (slice_get parts.entries position) position

-- Some ids of both lists are written to the list of the trigram, and the others remain.
pub record IsMergedList (trigram : ℕ) (before now : Written) (older newer older_left newer_left : List ℕ) : Type 0 where
  pub given : List ℕ
  pub paths : now.paths ≡ before.paths
  pub names : now.names ≡ before.names
  pub lists : now.lists ≡ before.lists ++ list_of trigram given
  pub sent : now.sent ≡ before.sent
  pub each : (id : ℕ) → (has given id || (has older_left id || has newer_left id)) ≡ (has older id || has newer id)
  pub older_rise : AscendWithin (length before.names) (next_after 0 given) older_left
  pub newer_rise : AscendWithin (length before.names) (next_after 0 given) newer_left

-- Distinct ids below the count, in any order.
pub record AreDistinctIds (count : ℕ) (ids : List ℕ) : Type 0 where
  pub below : (id : ℕ) → has ids id ≡ true → id < count
  pub once : AreDistinct ids

-- Each list from these positions on has a higher trigram than the lists that are written.
pub record AreLeft (older newer : List ListEntry) (lists : List PostingList) (older_position newer_position : ℕ) : Type 0 where
  pub older_within : older_position ≤ length older
  pub newer_within : newer_position ≤ length newer
  pub older_above : (entry : ListEntry) → slice_get older older_position ≡ Some entry → AllBelow lists entry.trigram
  pub newer_above : (entry : ListEntry) → slice_get newer newer_position ≡ Some entry → AllBelow lists entry.trigram

-- The lists before these positions are merged and written.
pub record AreMergedLists (older newer : Parts) (older_ids newer_ids : NewIds) (before now : Written)
    (older_position newer_position : ℕ) : Type 0 where
  pub paths : now.paths ≡ before.paths
  pub names : now.names ≡ before.names
  pub left : AreLeft older.entries newer.entries now.lists older_position newer_position
  pub older_sets : AreMappedLists older_ids (take older_position (lists_in older)) now.lists
  pub newer_sets : AreMappedLists newer_ids (take newer_position (lists_in newer)) now.lists
  pub older_whole : list_all (λ (e : ListEntry). (ids_read older e).whole) (take older_position older.entries) ≡ true
  pub newer_whole : list_all (λ (e : ListEntry). (ids_read newer e).whole) (take newer_position newer.entries) ≡ true
