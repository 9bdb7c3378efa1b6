-- Worked examples of histories. Each history is given with its paths, its files with their trigrams, the length of
-- its index and the offsets of the five sections. The newest job comes first.
use Rattle.std.proofs.Common.{◌≡◌, ℕ, false, List, [], ◌∷◌, ◌++◌, length, take, drop, ap, sym, ◌∙◌, Option, Some, None, codes, option_map, ◌-◌, flat_map}
use Rattle.cs_history.proofs.Common.{Item, folder, file, four_bytes, paths_of, files_of, index_of, merge_files, files_of_both, Parts}
use Rattle.std.specs.FinMap as map'
use Rattle.cs_tree.specs.PathSet as set
use Rattle.cs_index.specs.Encoding.{varint}
use Rattle.cs_history.proofs.PairListLemmas.{Job, history_from, history_of, paths_computed, files_computed, index_computed, entries_merged, entries_of_both}

-- ---- snapshots

abbrev folder_at : List ℕ → List (List ℕ) → List ℕ × Item
folder_at path names = (path, folder names false)

abbrev file_at : List ℕ → List ℕ → List ℕ × Item
file_at path text = (path, file (text ++ 10 ∷ []))

-- the trigrams of `one`, `two`, `six` and `ten`, each with its newline
abbrev one : List ℕ
one = 0x6e650a ∷ 0x6f6e65 ∷ []

abbrev two : List ℕ
two = 0x74776f ∷ 0x776f0a ∷ []

abbrev six : List ℕ
six = 0x69780a ∷ 0x736978 ∷ []

abbrev ten : List ℕ
ten = 0x656e0a ∷ 0x74656e ∷ []

-- the length of the index, and the first 20 of its last 36 bytes
abbrev frame : List ℕ → ℕ × List ℕ
frame bytes = (length bytes, take 20 (drop (length bytes - 36) bytes))

abbrev framed : ℕ → List ℕ → Option (ℕ × List ℕ)
framed n offsets = Some (n, flat_map four_bytes offsets)

-- ---- a path that is a prefix of another one's text

-- `/a/b/f` and `/a/bc/y` with these texts
abbrev in_two_folders : List ℕ → List ℕ → List (List ℕ × Item)
in_two_folders f y =
    folder_at (codes "/") (codes "a" ∷ [])
    ∷ folder_at (codes "/a") (codes "b" ∷ codes "bc" ∷ [])
    ∷ folder_at (codes "/a/b") (codes "f" ∷ [])
    ∷ file_at (codes "/a/b/f") f
    ∷ folder_at (codes "/a/bc") (codes "y" ∷ [])
    ∷ file_at (codes "/a/bc/y") y
    ∷ []

-- `cindex /a/b /a/bc`
abbrev both_folders : Job
both_folders = record { paths = codes "/a/b" ∷ codes "/a/bc" ∷ []; items = in_two_folders (codes "one") (codes "two") }

-- both files have changed: `cindex /a/b`
abbrev one_folder : Job
one_folder = record { paths = codes "/a/b" ∷ []; items = in_two_folders (codes "six") (codes "ten") }

paths_beside : set.items (paths_of (history_of (one_folder ∷ both_folders ∷ []))) ≡ codes "/a/b" ∷ codes "/a/bc" ∷ []
paths_beside = paths_computed None (one_folder ∷ both_folders ∷ [])

files_beside : map'.entries (files_of (history_of (one_folder ∷ both_folders ∷ []))) ≡ (codes "/a/b/f", six) ∷ (codes "/a/bc/y", two) ∷ []
files_beside = files_computed None (one_folder ∷ both_folders ∷ [])

index_beside : option_map frame (index_of (history_of (one_folder ∷ both_folders ∷ []))) ≡ framed 160 (16 ∷ 28 ∷ 44 ∷ 68 ∷ 80 ∷ [])
unfolding varint
index_beside = ap (option_map frame) (index_computed None one_folder (both_folders ∷ []))

-- ---- a file that becomes a folder, and a file again

-- `/a/b` with this text
abbrev one_file : List ℕ → List (List ℕ × Item)
one_file b =
    folder_at (codes "/") (codes "a" ∷ [])
    ∷ folder_at (codes "/a") (codes "b" ∷ codes "b-x" ∷ [])
    ∷ file_at (codes "/a/b") b
    ∷ file_at (codes "/a/b-x") (codes "two")
    ∷ []

-- `cindex /a`
abbrev as_a_file : Job
as_a_file = record { paths = codes "/a" ∷ []; items = one_file (codes "one") }

-- `cindex /a/b`
abbrev as_a_folder : Job
as_a_folder = record {
  paths = codes "/a/b" ∷ [];
  items =
      folder_at (codes "/") (codes "a" ∷ [])
      ∷ folder_at (codes "/a") (codes "b" ∷ codes "b-x" ∷ [])
      ∷ folder_at (codes "/a/b") (codes "z" ∷ [])
      ∷ file_at (codes "/a/b-x") (codes "two")
      ∷ file_at (codes "/a/b/z") (codes "six")
      ∷ [];
}

-- `cindex /a/b`
abbrev as_a_file_again : Job
as_a_file_again = record { paths = codes "/a/b" ∷ []; items = one_file (codes "ten") }

paths_of_a_folder : set.items (paths_of (history_of (as_a_folder ∷ as_a_file ∷ []))) ≡ codes "/a" ∷ []
paths_of_a_folder = paths_computed None (as_a_folder ∷ as_a_file ∷ [])

files_of_a_folder : map'.entries (files_of (history_of (as_a_folder ∷ as_a_file ∷ []))) ≡ (codes "/a/b-x", two) ∷ (codes "/a/b/z", six) ∷ []
files_of_a_folder = files_computed None (as_a_folder ∷ as_a_file ∷ [])

paths_of_a_file_again : set.items (paths_of (history_of (as_a_file_again ∷ as_a_folder ∷ as_a_file ∷ []))) ≡ codes "/a" ∷ []
paths_of_a_file_again = paths_computed None (as_a_file_again ∷ as_a_folder ∷ as_a_file ∷ [])

files_of_a_file_again : map'.entries (files_of (history_of (as_a_file_again ∷ as_a_folder ∷ as_a_file ∷ [])))
    ≡ (codes "/a/b", ten) ∷ (codes "/a/b-x", two) ∷ []
files_of_a_file_again = files_computed None (as_a_file_again ∷ as_a_folder ∷ as_a_file ∷ [])

-- ---- a folder below a path, and then the path again

-- `/a/b/f` and `/a/g` with these texts
abbrev in_both : List ℕ → List ℕ → List (List ℕ × Item)
in_both f g =
    folder_at (codes "/") (codes "a" ∷ [])
    ∷ folder_at (codes "/a") (codes "b" ∷ codes "g" ∷ [])
    ∷ folder_at (codes "/a/b") (codes "f" ∷ [])
    ∷ file_at (codes "/a/b/f") f
    ∷ file_at (codes "/a/g") g
    ∷ []

-- `cindex /a`
abbrev whole : Job
whole = record { paths = codes "/a" ∷ []; items = in_both (codes "one") (codes "two") }

-- both files have changed: `cindex /a/b`
abbrev below : Job
below = record { paths = codes "/a/b" ∷ []; items = in_both (codes "six") (codes "ten") }

-- nothing has changed: `cindex`
abbrev again : Job
again = record { paths = []; items = in_both (codes "six") (codes "ten") }

paths_below_a_path : set.items (paths_of (history_of (below ∷ whole ∷ []))) ≡ codes "/a" ∷ []
paths_below_a_path = paths_computed None (below ∷ whole ∷ [])

files_below_a_path : map'.entries (files_of (history_of (below ∷ whole ∷ []))) ≡ (codes "/a/b/f", six) ∷ (codes "/a/g", two) ∷ []
files_below_a_path = files_computed None (below ∷ whole ∷ [])

index_below_a_path : option_map frame (index_of (history_of (below ∷ whole ∷ []))) ≡ framed 149 (16 ∷ 20 ∷ 33 ∷ 57 ∷ 69 ∷ [])
unfolding varint
index_below_a_path = ap (option_map frame) (index_computed None below (whole ∷ []))

paths_read_again : set.items (paths_of (history_of (again ∷ below ∷ whole ∷ []))) ≡ codes "/a" ∷ []
paths_read_again = paths_computed None (again ∷ below ∷ whole ∷ [])

files_read_again : map'.entries (files_of (history_of (again ∷ below ∷ whole ∷ []))) ≡ (codes "/a/b/f", six) ∷ (codes "/a/g", ten) ∷ []
files_read_again = files_computed None (again ∷ below ∷ whole ∷ [])

-- ---- a path that is gone

-- `cindex /v`
abbrev there : Job
there = record {
  paths = codes "/v" ∷ [];
  items = folder_at (codes "/") (codes "v" ∷ []) ∷ folder_at (codes "/v") (codes "f" ∷ []) ∷ file_at (codes "/v/f") (codes "one") ∷ [];
}

-- `cindex`
abbrev gone : Job
gone = record { paths = []; items = folder_at (codes "/") [] ∷ [] }

paths_of_what_was_there : set.items (paths_of (history_of (there ∷ []))) ≡ codes "/v" ∷ []
paths_of_what_was_there = paths_computed None (there ∷ [])

files_of_what_was_there : map'.entries (files_of (history_of (there ∷ []))) ≡ (codes "/v/f", one) ∷ []
files_of_what_was_there = files_computed None (there ∷ [])

paths_of_what_is_gone : set.items (paths_of (history_of (gone ∷ there ∷ []))) ≡ codes "/v" ∷ []
paths_of_what_is_gone = paths_computed None (gone ∷ there ∷ [])

files_of_what_is_gone : map'.entries (files_of (history_of (gone ∷ there ∷ []))) ≡ []
files_of_what_is_gone = files_computed None (gone ∷ there ∷ [])

index_of_what_is_gone : option_map frame (index_of (history_of (gone ∷ there ∷ []))) ≡ framed 65 (16 ∷ 20 ∷ 21 ∷ 25 ∷ 29 ∷ [])
unfolding varint
index_of_what_is_gone = ap (option_map frame) (index_computed None gone (there ∷ []))

bytes_of_what_is_gone_stay : index_of (history_of (gone ∷ gone ∷ there ∷ [])) ≡ index_of (history_of (gone ∷ there ∷ []))
bytes_of_what_is_gone_stay = index_computed None gone (gone ∷ there ∷ []) ∙ sym (index_computed None gone (there ∷ []))

-- ---- an existing index

-- an index as the Go tool writes it: the names `/a/b/z` and `/a/b-x` are in the order of its walk, both have `abc`,
-- and an entry for `ff ff ff` has no file
abbrev by_the_go_tool : Option Parts
by_the_go_tool = Some (record {
  paths = codes "/a" ∷ [];
  names = codes "/a/b/z" ∷ codes "/a/b-x" ∷ [];
  entries = record { trigram = 0x616263; count = 2; offset = 0 } ∷ record { trigram = 0xffffff; count = 0; offset = 6 } ∷ [];
  postings = 0x61 ∷ 0x62 ∷ 0x63 ∷ 1 ∷ 1 ∷ 0 ∷ 0xff ∷ 0xff ∷ 0xff ∷ 0 ∷ [];
})

abbrev abc : List ℕ
abc = 0x616263 ∷ []

files_of_an_existing_index : map'.entries (files_of (history_from by_the_go_tool [])) ≡ (codes "/a/b-x", abc) ∷ (codes "/a/b/z", abc) ∷ []
files_of_an_existing_index = files_computed by_the_go_tool []

-- `cindex`
abbrev go_again : Job
go_again = record {
  paths = [];
  items =
      folder_at (codes "/") (codes "a" ∷ [])
      ∷ folder_at (codes "/a") (codes "b" ∷ codes "b-x" ∷ [])
      ∷ folder_at (codes "/a/b") (codes "z" ∷ [])
      ∷ (codes "/a/b/z", file (codes "abc"))
      ∷ (codes "/a/b-x", file (codes "abc"))
      ∷ [];
}

-- `cindex /a/b-x`, which has changed
abbrev go_on : Job
go_on = record {
  paths = codes "/a/b-x" ∷ [];
  items = folder_at (codes "/") (codes "a" ∷ []) ∷ folder_at (codes "/a") (codes "b-x" ∷ []) ∷ file_at (codes "/a/b-x") (codes "six") ∷ [];
}

-- `cindex /c`, an empty folder
abbrev go_beside : Job
go_beside = record { paths = codes "/c" ∷ []; items = folder_at (codes "/") (codes "c" ∷ []) ∷ folder_at (codes "/c") [] ∷ [] }

index_read_again : option_map frame (index_of (history_from by_the_go_tool (go_again ∷ []))) ≡ framed 104 (16 ∷ 20 ∷ 35 ∷ 45 ∷ 57 ∷ [])
unfolding varint
index_read_again = ap (option_map frame) (index_computed by_the_go_tool go_again [])

paths_gone_on_from : set.items (paths_of (history_from by_the_go_tool (go_on ∷ []))) ≡ codes "/a" ∷ []
paths_gone_on_from = paths_computed by_the_go_tool (go_on ∷ [])

files_gone_on_from : map'.entries (files_of (history_from by_the_go_tool (go_on ∷ []))) ≡ (codes "/a/b-x", six) ∷ (codes "/a/b/z", abc) ∷ []
files_gone_on_from = files_computed by_the_go_tool (go_on ∷ [])

index_gone_on_from : option_map frame (index_of (history_from by_the_go_tool (go_on ∷ []))) ≡ framed 135 (16 ∷ 20 ∷ 35 ∷ 54 ∷ 66 ∷ [])
unfolding varint
index_gone_on_from = ap (option_map frame) (index_computed by_the_go_tool go_on [])

paths_beside_it : set.items (paths_of (history_from by_the_go_tool (go_beside ∷ []))) ≡ codes "/a" ∷ codes "/c" ∷ []
paths_beside_it = paths_computed by_the_go_tool (go_beside ∷ [])

index_beside_it : option_map frame (index_of (history_from by_the_go_tool (go_beside ∷ []))) ≡ framed 107 (16 ∷ 23 ∷ 38 ∷ 48 ∷ 60 ∷ [])
unfolding varint
index_beside_it = ap (option_map frame) (index_computed by_the_go_tool go_beside [])

-- ---- merges

-- the files of the newer index are not the first
shards_merge_in_name_order : map'.entries
    (merge_files (set.from_list (codes "/a" ∷ [])) (map'.from_entries ((codes "/b/f", one) ∷ []))
    (map'.from_entries ((codes "/a/g", two) ∷ []))) ≡ (codes "/a/g", two) ∷ (codes "/b/f", one) ∷ []
shards_merge_in_name_order = entries_merged (codes "/a" ∷ []) ((codes "/b/f", one) ∷ []) ((codes "/a/g", two) ∷ [])

-- if a path of the newer index covers a name of the old one, the merge lacks that file
a_covered_name_is_lost : map'.entries (merge_files (set.from_list (codes "/a" ∷ []))
    (map'.from_entries ((codes "/a/f", one) ∷ [])) (map'.from_entries ((codes "/a/g", two) ∷ []))) ≡ (codes "/a/g", two)
    ∷ []
a_covered_name_is_lost = entries_merged (codes "/a" ∷ []) ((codes "/a/f", one) ∷ []) ((codes "/a/g", two) ∷ [])

both_have_the_covered_name : map'.entries
    (files_of_both (map'.from_entries ((codes "/a/f", one) ∷ [])) (map'.from_entries ((codes "/a/g", two) ∷ [])))
    ≡ (codes "/a/f", one) ∷ (codes "/a/g", two) ∷ []
both_have_the_covered_name = entries_of_both ((codes "/a/f", one) ∷ []) ((codes "/a/g", two) ∷ [])
