-- The model of `Sections`: the paths, names and posting lists that are written so far.
-- docs/FORMAT.md, "The index as it is written".
use Rattle.std.specs.Prelude.{◌≢◌, ℕ, ◌+◌, ◌<◌, ◌≤◌, ◌^◌, nat_eq, if◌then◌else◌, List, [], ◌∷◌, ◌++◌, length, map, Option, Some}
use Rattle.std.specs.List.{AllByRecursion, concat}
use Rattle.std.specs.Option.{option_map_or}
use Rattle.cs_index.specs.Encoding.{Entry, PostingList, magic, posting_list_bytes, strings_section}
use Rattle.cs_index.specs.PostingLists.{entries_of}

-- The paths, the names, the posting lists with at least one id, the trigram of the list that was begun last, and the
-- bytes of the index that were sent to an output.
pub record Written : Type 0 where
  pub paths : List (List ℕ)
  pub names : List (List ℕ)
  pub lists : List PostingList
  pub last_trigram : Option ℕ
  pub sent : List ℕ

-- the ids of a trigram
abbrev pub ids_of : List PostingList → ℕ → List ℕ
ids_of [] g = []
ids_of ((trigram, ids) ∷ lists) g = if nat_eq trigram g then ids else ids_of lists g

-- the lists with an id appended to that of a trigram
abbrev pub with_id : List PostingList → ℕ → ℕ → List PostingList
with_id [] g id = (g, id ∷ []) ∷ []
with_id ((trigram, ids) ∷ lists) g id =
    if nat_eq trigram g then (trigram, ids ++ id ∷ []) ∷ lists else (trigram, ids) ∷ with_id lists g id

-- each name with the trigrams of the lists that contain its id
abbrev pub entries_written : Written → List Entry
entries_written output = entries_of 0 output.names output.lists

-- the ids of the list that was begun last
abbrev pub last_ids : Written → List ℕ
last_ids output = option_map_or (ids_of output.lists) output.last_trigram []

-- with one more name
abbrev pub with_written_name : Written → List ℕ → Written
with_written_name output name = record {
  paths = output.paths;
  names = output.names ++ name ∷ [];
  lists = output.lists;
  last_trigram = output.last_trigram;
  sent = output.sent;
}

-- with a list begun
abbrev pub with_list : Written → ℕ → Written
with_list output trigram = record {
  paths = output.paths;
  names = output.names;
  lists = output.lists;
  last_trigram = Some trigram;
  sent = output.sent;
}

-- with an id appended to the list of a trigram
abbrev pub with_written_id : Written → ℕ → ℕ → Written
with_written_id output trigram id = record {
  paths = output.paths;
  names = output.names;
  lists = with_id output.lists trigram id;
  last_trigram = output.last_trigram;
  sent = output.sent;
}

-- with an id appended to the list that was begun last
abbrev pub with_last_id : Written → ℕ → Written
with_last_id output id = option_map_or (λ trigram. with_written_id output trigram id) output.last_trigram output

-- with ids appended to the list that was begun last
abbrev pub with_last_ids : Written → List ℕ → Written
with_last_ids output [] = output
with_last_ids output (id ∷ ids) = with_last_ids (with_last_id output id) ids

-- with these bytes sent
abbrev pub with_sent : Written → List ℕ → Written
with_sent output sent = record {
  paths = output.paths;
  names = output.names;
  lists = output.lists;
  last_trigram = output.last_trigram;
  sent = sent;
}

-- the trigrams of all lists are less than this one
abbrev pub AllBelow : List PostingList → ℕ → Type 0
AllBelow lists bound = AllByRecursion (λ ((trigram, ids) : PostingList). trigram < bound) lists

-- the index before the posting lists: the magic, the paths and the names
abbrev pub prefix_of : List (List ℕ) → List (List ℕ) → List ℕ
prefix_of paths names = (magic ++ strings_section paths) ++ strings_section names

-- the index up to the end of the last list
abbrev pub bytes_written : Written → List ℕ
bytes_written output = prefix_of output.paths output.names ++ concat (map posting_list_bytes output.lists)

-- Fewer than 2^16 bytes wait to be sent. The zero that closes the last list is not made yet, and no byte is before the
-- first list.
abbrev pub IsSentEarly : Written → Type 0
IsSentEarly output = output.lists ≢ [] → length (bytes_written output) ≤ length output.sent + 2 ^ 16
