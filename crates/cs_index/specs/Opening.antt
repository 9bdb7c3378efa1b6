-- The index as it is read, as a function: what bytes open as, or their error.
-- docs/FORMAT.md, "The index as it is read".
use Rattle.std.specs.Prelude.{ℕ, zero, suc, ◌+◌, ◌-◌, ◌*◌, ◌/◌, ◌%◌, Bool, true, not, ◌&&◌, ◌||◌, nat_eq, nat_le, nat_lt, List, [], ◌∷◌, ◌++◌, length, map, slice_index, slice_range, if◌then◌else◌, Result, Ok, Err, ◌^◌, bytes_eq}
use Rattle.cs_trigram.specs.Trigram.{closing_trigram}
use Rattle.std.specs.List.{list_all, starts_with, ends_with, before_first, concat}
use Rattle.std.specs.Str.{is_utf8}
use Rattle.std.specs.Int.{from_be_bytes, w32}
use Rattle.cs_index.specs.declared.fault.IndexFault.{IndexFault}
use Rattle.cs_index.specs.declared.fault.IndexFault.TheVariants.{BadMagic, BadTrailer, BadOffsets, BadPaths, BadNames, BadNameIndex, BadListIndex}
use Rattle.cs_index.specs.Encoding.{with_nul, starts_from, SectionBytes, magic, trailer_magic, ListEntry}
use Rattle.cs_index.specs.Strings.{texts_in}
use Rattle.cs_index.specs.OpenedParts.{Parts}

-- ---- numbers

-- the big-endian number of four bytes at an offset, and of three bytes
unfoldable pub number_at : List ℕ → ℕ → ℕ
number_at bytes at = from_be_bytes w32 (map (slice_index bytes) (at ∷ (at + 1) ∷ (at + 2) ∷ (at + 3) ∷ []))

unfoldable pub trigram_at : List ℕ → ℕ → ℕ
trigram_at bytes at = from_be_bytes w32 (0 ∷ map (slice_index bytes) (at ∷ (at + 1) ∷ (at + 2) ∷ []))

-- consecutive numbers
abbrev pub numbers_from : List ℕ → ℕ → ℕ → List ℕ
numbers_from bytes at zero = []
numbers_from bytes at (suc count) = number_at bytes at ∷ numbers_from bytes (at + 4) count

-- ---- strings

-- the strings of a section: its texts before the first empty one
unfoldable pub texts_of : List ℕ → List (List ℕ)
texts_of section = before_first (λ text. bytes_eq text []) (texts_in section)

-- the section is its strings, each UTF-8 and followed by a NUL, and then the closing bytes
unfoldable pub is_section : List ℕ → List ℕ → Bool
is_section closing section = bytes_eq section (concat (map with_nul (texts_of section)) ++ closing)
    && list_all is_utf8 (texts_of section)

-- strings, and at most one final NUL
abbrev pub is_names_section : List ℕ → Bool
is_names_section section = is_section (0 ∷ []) section || is_section [] section

-- ---- entries

abbrev pub entry_at : List ℕ → ℕ → ListEntry
entry_at bs at =
    record { trigram = trigram_at bs at; count = number_at bs (at + 3); offset = number_at bs (at + 7) }

abbrev pub entries_from : List ℕ → ℕ → ℕ → List ListEntry
entries_from bytes at zero = []
entries_from bytes at (suc count) = entry_at bytes at ∷ entries_from bytes (at + 11) count

-- the entries of a list index
unfoldable pub entries_in : List ℕ → List ListEntry
entries_in bytes = entries_from bytes 0 (length bytes / 11)

-- the section has four bytes at the entry's offset, and an entry of `ff ff ff` counts no file
abbrev pub is_entry : ℕ → ListEntry → Bool
is_entry room e = nat_le (e.offset + 4) room && (nat_lt e.trigram closing_trigram || nat_eq e.count 0)

-- the trigrams are strictly ascending
abbrev pub rises : List ListEntry → Bool
rises [] = true
rises (d ∷ []) = true
rises (d ∷ e ∷ es) = nat_lt d.trigram e.trigram && rises (e ∷ es)

-- ---- the tests, in the order of the variants of `IndexFault`

abbrev pub has_trailer : List ℕ → Bool
has_trailer bytes =
    nat_le 52 (length bytes) && (nat_lt (length bytes) (2 ^ 32) && ends_with nat_eq bytes trailer_magic)

-- section offsets are ascending, from 16 to the start of the trailer
abbrev pub are_section_offsets : ℕ → ℕ → ℕ → ℕ → ℕ → ℕ → Bool
are_section_offsets a b c d e trailer =
    nat_eq a 16 && (nat_le a b && (nat_le b c && (nat_le c d && (nat_le d e && nat_le e trailer))))

-- the sections at these offsets
abbrev pub split_at_offsets : List ℕ → ℕ → ℕ → ℕ → ℕ → ℕ → ℕ → Result SectionBytes IndexFault
split_at_offsets bytes a b c d e trailer =
    if are_section_offsets a b c d e trailer then Ok (record {
      paths = slice_range bytes a b;
      names = slice_range bytes b c;
      postings = slice_range bytes c d;
      name_index = slice_range bytes d e;
      list_index = slice_range bytes e trailer;
    }) else Err BadOffsets

-- the sections at the offsets in the trailer
abbrev pub split_before : List ℕ → ℕ → Result SectionBytes IndexFault
split_before bytes at = split_at_offsets bytes (number_at bytes at) (number_at bytes (at + 4)) (number_at bytes (at + 8))
    (number_at bytes (at + 12)) (number_at bytes (at + 16)) at

-- the sections of an index, if it has both magics
unfoldable pub split_of : List ℕ → Result SectionBytes IndexFault
split_of bytes =
    if not (starts_with nat_eq bytes magic) then Err BadMagic
    else (if not (has_trailer bytes) then Err BadTrailer else split_before bytes (length bytes - 36))

-- the offsets of the names, and one more number
unfoldable pub is_name_index : List ℕ → List (List ℕ) → Bool
is_name_index bytes names = nat_eq (length bytes) (4 * (length names + 1))
    && bytes_eq (numbers_from bytes 0 (length names)) (starts_from 0 (map with_nul names))

unfoldable pub is_list_index : ℕ → List ℕ → Bool
is_list_index room bytes =
    nat_eq (length bytes % 11) 0 && (rises (entries_in bytes) && list_all (is_entry room) (entries_in bytes))

abbrev pub parts_of : SectionBytes → Parts
parts_of s = record {
  paths = texts_of s.paths;
  names = texts_of s.names;
  postings = s.postings;
  entries = entries_in s.list_index;
}

abbrev pub read_sections : SectionBytes → Result Parts IndexFault
read_sections s =
    if not (is_section (0 ∷ []) s.paths) then Err BadPaths
    else (if not (is_names_section s.names) then Err BadNames
    else (if not (is_name_index s.name_index (texts_of s.names)) then Err BadNameIndex
    else (if not (is_list_index (length s.postings) s.list_index) then Err BadListIndex
    else Ok (parts_of s))))

-- what the bytes open as
unfoldable pub opening : List ℕ → Result Parts IndexFault
opening bytes = elim (split_of bytes) [ Ok s ↦ read_sections s | Err fault ↦ Err fault ]
