-- Worked examples of the definitions.
use Rattle.std.specs.Prelude.{◌≡◌, true, false, Some, refl, List, [], ◌∷◌, ◌++◌, codes, length, flat_map}
use Rattle.cs_index.specs.PostingLists.{read_list}
use Rattle.cs_index.specs.Encoding.{Entry, deltas_from, ids_from, encoding_of, posting_list_bytes, varint}
use Rattle.cs_index.specs.OpenedParts.{whole_ids}
use Rattle.cs_index.specs.LeastLength.{least_length}
use Rattle.cs_index.specs.Built.{are_paths, is_above, is_storable}
use Rattle.cs_tree.specs.Cover.{is_alone}
use Rattle.cs_index.specs.Gathering.{lists_from}
use Rattle.cs_index.specs.Buckets.{base_after, ids_in_buckets, postings_from, with_file, without_file}
use Rattle.cs_index.specs.ShortDeltas.{are_short, second_bytes, short_deltas}
use Rattle.cs_index.specs.Sending.{all_sent, bytes_in, with_bytes, IsSentOn}
use Rattle.cs_index.specs.Written.{Written, entries_written, last_ids, with_last_id, with_list}

-- an empty folder at `/a`
empty_folder : length (encoding_of (codes "/a" ∷ []) []) ≡ 65
unfolding varint
empty_folder = refl

-- the file `/a/x` with `abcd` and a newline
one_file : encoding_of (codes "/a" ∷ []) ((codes "/a/x", 0x616263 ∷ 0x626364 ∷ 0x63640a ∷ []) ∷ []) ≡
    codes "csearch index 1" ++ 10 ∷ []
    ++ 0x2f ∷ 0x61 ∷ 0x00 ∷ 0x00
    ∷ 0x2f ∷ 0x61 ∷ 0x2f ∷ 0x78 ∷ 0x00 ∷ 0x00
    ∷ 0x61 ∷ 0x62 ∷ 0x63 ∷ 0x01 ∷ 0x00 ∷ 0x62 ∷ 0x63 ∷ 0x64 ∷ 0x01 ∷ 0x00 ∷ 0x63 ∷ 0x64 ∷ 0x0a ∷ 0x01 ∷ 0x00 ∷ 0xff ∷ 0xff ∷ 0xff ∷ 0x00
    ∷ 0x00 ∷ 0x00 ∷ 0x00 ∷ 0x00 ∷ 0x00 ∷ 0x00 ∷ 0x00 ∷ 0x05
    ∷ 0x61 ∷ 0x62 ∷ 0x63 ∷ 0x00 ∷ 0x00 ∷ 0x00 ∷ 0x01 ∷ 0x00 ∷ 0x00 ∷ 0x00 ∷ 0x00
    ∷ 0x62 ∷ 0x63 ∷ 0x64 ∷ 0x00 ∷ 0x00 ∷ 0x00 ∷ 0x01 ∷ 0x00 ∷ 0x00 ∷ 0x00 ∷ 0x05
    ∷ 0x63 ∷ 0x64 ∷ 0x0a ∷ 0x00 ∷ 0x00 ∷ 0x00 ∷ 0x01 ∷ 0x00 ∷ 0x00 ∷ 0x00 ∷ 0x0a
    ∷ 0x00 ∷ 0x00 ∷ 0x00 ∷ 0x10 ∷ 0x00 ∷ 0x00 ∷ 0x00 ∷ 0x14 ∷ 0x00 ∷ 0x00 ∷ 0x00 ∷ 0x1a ∷ 0x00 ∷ 0x00 ∷ 0x00 ∷ 0x2d
    ∷ 0x00 ∷ 0x00 ∷ 0x00 ∷ 0x35
    ∷ 10 ∷ codes "csearch trailr" ++ 10 ∷ []
unfolding varint
one_file = refl

-- three trigrams, with fifteen bytes more each, and the path
one_file_least : least_length ((codes "/a/x", 0x616263 ∷ 0x626364 ∷ 0x63640a ∷ []) ∷ []) ≡ 74
one_file_least = refl

-- nine names; those with the ids 1, 6, 7 and 8 have `abc`
with_abc : List Entry
with_abc =
    (codes "/t/0", []) ∷ (codes "/t/1", 0x616263 ∷ []) ∷ (codes "/t/2", []) ∷ (codes "/t/3", []) ∷ (codes "/t/4", [])
    ∷ (codes "/t/5", []) ∷ (codes "/t/6", 0x616263 ∷ []) ∷ (codes "/t/7", 0x616263 ∷ []) ∷ (codes "/t/8", 0x616263 ∷ []) ∷ []

nine_names : posting_list_bytes (0x616263, ids_from 0 0x616263 with_abc) ≡ 0x61 ∷ 0x62 ∷ 0x63 ∷ 0x02 ∷ 0x05 ∷ 0x01 ∷ 0x01 ∷ 0x00 ∷ []
unfolding varint with_abc
nine_names = refl

-- the ids 127 and 255
two_bytes : flat_map varint (deltas_from 0 (127 ∷ 255 ∷ [])) ++ 0 ∷ [] ≡ 0x80 ∷ 0x01 ∷ 0x80 ∷ 0x01 ∷ 0x00 ∷ []
unfolding varint
two_bytes = refl

-- the deltas 5 and 128, and one that is begun
short : short_deltas 0 (0x05 ∷ 0x80 ∷ 0x01 ∷ 0x81 ∷ []) ≡ 5 ∷ 128 ∷ []
short = refl

begun_last : are_short 0 (0x05 ∷ 0x80 ∷ 0x01 ∷ 0x81 ∷ []) ≡ true
begun_last = refl

second : second_bytes 0 (0x05 ∷ 0x80 ∷ 0x01 ∷ 0x81 ∷ []) ≡ 0 ∷ 0 ∷ 1 ∷ 0 ∷ []
second = refl

-- a delta of three bytes, one with a byte too many, and the end of a list
three_bytes : are_short 0 (0x80 ∷ 0x80 ∷ 0x01 ∷ []) ≡ false
three_bytes = refl

padded : are_short 0 (0x85 ∷ 0x00 ∷ 0x01 ∷ []) ≡ false
padded = refl

ended : are_short 0 (0x05 ∷ 0x00 ∷ []) ≡ false
ended = refl

-- two names with two trigrams each, below `/a/b` and `/a/bc`
two_names : length (encoding_of (codes "/a/b" ∷ codes "/a/bc" ∷ [])
    ((codes "/a/b/f", 0x69780a ∷ 0x736978 ∷ []) ∷ (codes "/a/bc/y", 0x74776f ∷ 0x776f0a ∷ []) ∷ [])) ≡ 160
unfolding varint
two_names = refl

-- three files shorter than three bytes
short_files : length (encoding_of (codes "/t" ∷ []) ((codes "/t/e", []) ∷ (codes "/t/f", []) ∷ (codes "/t/g", []) ∷ [])) ≡ 92
unfolding varint
short_files = refl

-- a list with only the id 0 is whole if its entry counts one id, and damaged if it counts two
whole_list : whole_ids (read_list (codes "abc" ++ 1 ∷ 0 ∷ []) 1 (record { trigram = 0x616263; count = 1; offset = 0 })) ≡ 0 ∷ []
whole_list = refl

damaged_list : read_list (codes "abc" ++ 1 ∷ 0 ∷ []) 1 (record { trigram = 0x616263; count = 2; offset = 0 })
    ≡ record { ids = 0 ∷ []; whole = false }
damaged_list = refl

no_list : whole_ids (read_list (codes "abc" ++ 1 ∷ 0 ∷ []) 1 (record { trigram = 0x616263; count = 2; offset = 0 })) ≡ []
no_list = refl

-- what a builder accepts
covered_path : are_paths (codes "/a" ∷ codes "/a/b" ∷ []) ≡ false
covered_path = refl

apart_paths : are_paths (codes "/a/b" ∷ codes "/a/bc" ∷ []) ≡ true
apart_paths = refl

falling_paths : are_paths (codes "/b" ∷ codes "/a" ∷ []) ≡ false
falling_paths = refl

empty_name : is_storable [] ≡ false
empty_name = refl

equal_name : is_above (codes "/b" ∷ []) (codes "/b") ≡ false
equal_name = refl

later_name : is_above (codes "/b" ∷ []) (codes "/c") ≡ true
later_name = refl

-- three names, a list of the first and the third, and a list that was begun but has no id
three_written : Written
three_written = with_list (record {
  paths = codes "/t" ∷ [];
  names = codes "/t/0" ∷ codes "/t/1" ∷ codes "/t/2" ∷ [];
  lists = (0x616263, 0 ∷ 2 ∷ []) ∷ [];
  last_trigram = Some 0x616263;
  sent = [];
}) 0x616264

no_trace : entries_written three_written ≡
    (codes "/t/0", 0x616263 ∷ []) ∷ (codes "/t/1", []) ∷ (codes "/t/2", 0x616263 ∷ []) ∷ []
unfolding three_written
no_trace = refl

no_ids : last_ids three_written ≡ []
unfolding three_written
no_ids = refl

one_id : (with_last_id three_written 1).lists ≡ (0x616263, 0 ∷ 2 ∷ []) ∷ (0x616264, 1 ∷ []) ∷ []
unfolding three_written
one_id = refl

-- two bytes are sent, and then one that follows them
sent_in_parts : IsSentOn (7 ∷ []) (7 ∷ 8 ∷ 9 ∷ []) (5 ∷ []) (5 ∷ 8 ∷ 9 ∷ [])
sent_in_parts = record { bytes = 8 ∷ 9 ∷ []; grew = refl; got = refl }

bytes_after_send : bytes_in (with_bytes (all_sent (record { sent = 7 ∷ []; unsent = 8 ∷ [] })) (9 ∷ [])) ≡ 7 ∷ 8 ∷ 9 ∷ []
bytes_after_send = refl

-- another path is between `/a` and a path that it covers
covered_apart : is_alone (codes "/a" ∷ codes "/a-b" ∷ codes "/a/b" ∷ []) (codes "/a/b") ≡ false
covered_apart = refl

-- two postings of the first group, an advance by two groups, and a posting at position 3 of the third
keys_of_three : postings_from 0 (112 ∷ 147 ∷ 31 ∷ 115 ∷ []) ≡ (7, 0) ∷ (9, 3) ∷ (7, 33) ∷ []
keys_of_three = refl

base_of_three : base_after 0 (112 ∷ 147 ∷ 31 ∷ 115 ∷ []) ≡ 30
base_of_three = refl

-- the trigram 4103 is 7 in the second bucket
ids_of_two : ids_in_buckets ([] ∷ ((7, 0) ∷ (9, 3) ∷ (7, 33) ∷ []) ∷ []) 4103 ≡ 0 ∷ 33 ∷ []
ids_of_two = refl

with_third : with_file 5 ([] ∷ ((7, 0) ∷ []) ∷ []) (9 ∷ 4105 ∷ []) ≡ ((9, 5) ∷ []) ∷ ((7, 0) ∷ (9, 5) ∷ []) ∷ []
with_third = refl

without_third : without_file (((9, 5) ∷ []) ∷ ((7, 0) ∷ (9, 5) ∷ []) ∷ []) (9 ∷ 4105 ∷ []) ≡ [] ∷ ((7, 0) ∷ []) ∷ []
without_third = refl

lists_in_row : lists_from 6 ([] ∷ (5 ∷ 8 ∷ []) ∷ [] ∷ (8 ∷ []) ∷ []) ≡ (7, 5 ∷ 8 ∷ []) ∷ (9, 8 ∷ []) ∷ []
lists_in_row = refl
