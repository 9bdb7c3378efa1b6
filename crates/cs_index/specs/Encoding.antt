-- The encoding of an index: the bytes that are written.
-- docs/FORMAT.md, "The index as it is written".
use Rattle.std.specs.Prelude.{◌≢◌, ◌<◌, ℕ, zero, suc, ◌+◌, ◌-◌, ◌/◌, ◌%◌, nat_lt, List, [], ◌∷◌, ◌++◌, length, map, if◌then◌else◌, codes, flat_map, drop, IsUtf8}
use Rattle.cs_tree.specs.PathSet.{Paths}
use Rattle.cs_tree.specs.NameOrder.{bytes_cmp}
use Rattle.cs_trigram.specs.Trigram.{closing_trigram, has, set_of_numbers}
use Rattle.std.specs.Int.{to_be_bytes, w32}
use Rattle.std.specs.List.{AllByRecursion, concat}
use Rattle.std.specs.FinMap as map'
use Rattle.cs_tree.specs.PathSet as set'

-- ---- numbers

-- big-endian numbers
abbrev pub four_bytes : ℕ → List ℕ
four_bytes n = to_be_bytes w32 n

abbrev pub three_bytes : ℕ → List ℕ
three_bytes n = drop 1 (four_bytes n)

-- a varint (LEB128) of at most `room` bytes: seven bits in each byte, the lowest first; every byte except the
-- last has its top bit set
abbrev pub varint_within : ℕ → ℕ → List ℕ
varint_within zero n = []
varint_within (suc room) n = if nat_lt n 128 then n ∷ [] else (n % 128 + 128) ∷ varint_within room (n / 128)

unfoldable pub varint : ℕ → List ℕ
varint n = varint_within 5 n

-- ---- offsets

-- the offsets of consecutive pieces, the first at `start`
abbrev pub starts_from : ℕ → List (List ℕ) → List ℕ
starts_from start [] = []
starts_from start (piece ∷ pieces) = start ∷ starts_from (start + length piece) pieces

-- ---- the sections

pub record SectionBytes : Type 0 where
  pub paths : List ℕ
  pub names : List ℕ
  pub postings : List ℕ
  pub name_index : List ℕ
  pub list_index : List ℕ

abbrev pub section_list : SectionBytes → List (List ℕ)
section_list s = s.paths ∷ s.names ∷ s.postings ∷ s.name_index ∷ s.list_index ∷ []

abbrev pub magic : List ℕ
magic = codes "csearch index 1" ++ 10 ∷ []

abbrev pub trailer_magic : List ℕ
trailer_magic = 10 ∷ codes "csearch trailr" ++ 10 ∷ []

-- the section offsets, and the magic of the trailer
abbrev pub trailer : SectionBytes → List ℕ
trailer s = flat_map four_bytes (starts_from 16 (section_list s)) ++ trailer_magic

-- the magic, the sections and the trailer
abbrev pub layout : SectionBytes → List ℕ
layout s = magic ++ (concat (section_list s) ++ trailer s)

-- a NUL-terminated string
abbrev pub with_nul : List ℕ → List ℕ
with_nul text = text ++ 0 ∷ []

-- strings and a final NUL
abbrev pub strings_section : List (List ℕ) → List ℕ
strings_section texts = concat (map with_nul texts) ++ 0 ∷ []

-- ---- postings

-- a name and the trigrams of its text, ascending
abbrev pub Entry : Type 0
Entry = List ℕ × List ℕ

-- the ids of the names that have the trigram; the first name has the id `first`
abbrev pub ids_from : ℕ → ℕ → List Entry → List ℕ
ids_from first trigram [] = []
ids_from first trigram ((name, trigrams) ∷ entries) =
    let ids = ids_from (first + 1) trigram entries in if has trigrams trigram then first ∷ ids else ids

-- the trigrams of all names
abbrev pub trigrams_of : List Entry → List ℕ
trigrams_of entries = set_of_numbers (flat_map (λ ((name, trigrams) : Entry). trigrams) entries)

-- each id minus the id before it; `next` is one more than the id before the first, and 0 at the start of a
-- list
abbrev pub deltas_from : ℕ → List ℕ → List ℕ
deltas_from next [] = []
deltas_from next (id ∷ ids) = (id + 1 - next) ∷ deltas_from (id + 1) ids

-- the varint deltas of ids
abbrev pub stream_of : List ℕ → List ℕ
stream_of ids = flat_map varint (deltas_from 0 ids)

-- a trigram and the ids that have it
abbrev pub PostingList : Type 0
PostingList = ℕ × List ℕ

abbrev pub posting_list_bytes : PostingList → List ℕ
posting_list_bytes (trigram, ids) = three_bytes trigram ++ (stream_of ids ++ 0 ∷ [])

abbrev pub postings_of : List Entry → List PostingList
postings_of entries = map (λ trigram. (trigram, ids_from 0 trigram entries)) (trigrams_of entries)

-- An entry of the list index: a trigram, the number of its ids, and the offset of its posting list.
pub record ListEntry : Type 0 where
  pub trigram : ℕ
  pub count : ℕ
  pub offset : ℕ

abbrev pub entry_bytes : ListEntry → List ℕ
entry_bytes e = three_bytes e.trigram ++ (four_bytes e.count ++ four_bytes e.offset)

abbrev pub list_entries : ℕ → List PostingList → List ListEntry
list_entries offset [] = []
list_entries offset ((g, ids) ∷ postings) = record { trigram = g; count = length ids; offset = offset }
    ∷ list_entries (offset + length (posting_list_bytes (g, ids))) postings

-- ---- the index

abbrev pub name_offsets : List (List ℕ) → List ℕ
name_offsets names = flat_map four_bytes (starts_from 0 (map with_nul names))

abbrev pub sections_of : List (List ℕ) → List (List ℕ) → List PostingList → SectionBytes
sections_of paths names postings = record {
  paths = strings_section paths;
  names = strings_section names;
  postings = concat (map posting_list_bytes postings) ++ posting_list_bytes (closing_trigram, []);
  name_index = name_offsets names ++ four_bytes (length (concat (map with_nul names)));
  list_index = flat_map entry_bytes (list_entries 0 postings);
}

abbrev pub names_of : List Entry → List (List ℕ)
names_of entries = map (λ ((name, trigrams) : Entry). name) entries

-- the encoding of ascending paths, and of entries with ascending names
abbrev pub encoding_of : List (List ℕ) → List Entry → List ℕ
encoding_of paths entries = layout (sections_of paths (names_of entries) (postings_of entries))

-- a map from names to sets of trigrams, each set as its members in ascending order
abbrev pub Files : Type 0
Files = map'.FinMap bytes_cmp (List ℕ)

-- the encoding of a set of paths and a map of files
unfoldable pub encoding : Paths → Files → List ℕ
encoding paths files = encoding_of (set'.items paths) (map'.entries files)

-- a string that a section can have
abbrev pub IsString : List ℕ → Type 0
IsString text = (text ≢ []) × AllByRecursion (λ b. 0 < b) text × IsUtf8 text
