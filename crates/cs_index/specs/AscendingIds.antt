-- Ascending ids of posting lists.
use Rattle.std.specs.Prelude.{◌≢◌, ℕ, ◌+◌, ◌<◌, ◌≤◌, List, [], ◌∷◌, map}
use Rattle.cs_trigram.specs.Trigram.{Ascends}
use Rattle.std.specs.List.{AllByRecursion}
use Rattle.cs_index.specs.Encoding.{PostingList}

-- ids are less than this number: an index shorter than 2^32 bytes has fewer names
abbrev pub max_ids : ℕ
max_ids = 2147483648

-- the ids are strictly ascending, at least `next`, and less than the number of names
abbrev pub AscendWithin : ℕ → ℕ → List ℕ → Type 0
AscendWithin name_count next [] = Unit {0}
AscendWithin name_count next (id ∷ ids) = (next ≤ id) × (id < name_count) × AscendWithin name_count (id + 1) ids

-- the first id is not less than this one
abbrev pub BeginsFrom : ℕ → List ℕ → Type 0
BeginsFrom end [] = Unit {0}
BeginsFrom end (id ∷ ids) = end ≤ id

-- one more than the last id, or `next` if there is none
abbrev pub next_after : ℕ → List ℕ → ℕ
next_after next [] = next
next_after next (id ∷ ids) = next_after (id + 1) ids

-- the ids of an encoded run, which are relative to `from`
abbrev pub ids_onward : ℕ → List ℕ → List ℕ
ids_onward from ids = map (λ id. from + id) ids

-- a posting list: at least one id, and the ids are ascending
abbrev pub IsPostingList : ℕ → PostingList → Type 0
IsPostingList name_count (trigram, ids) = (ids ≢ []) × AscendWithin name_count 0 ids

-- The posting lists of an index: the trigrams are ascending, and each list is valid.
pub record ArePostingLists (name_count : ℕ) (postings : List PostingList) : Type 0 where
  pub ascend : Ascends (map (λ ((trigram, ids) : PostingList). trigram) postings)
  pub each : AllByRecursion (IsPostingList name_count) postings
