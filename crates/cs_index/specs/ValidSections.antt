-- Sections that passed the tests of opening.
use Rattle.std.specs.Prelude.{◌≡◌, ℕ, ◌+◌, ◌*◌, Bool, true, ◌&&◌, nat_eq, List, [], ◌∷◌, length, map, ◌<◌, ◌^◌, bytes_eq, Result, Ok, Err}
use Rattle.cs_index.specs.declared.fault.IndexFault.{IndexFault}
use Rattle.cs_index.specs.Encoding.{with_nul, starts_from, SectionBytes}
use Rattle.cs_index.specs.OpenedParts.{Parts}
use Rattle.cs_index.specs.Opening.{texts_of, is_section, is_names_section, is_name_index, is_list_index, numbers_from, read_sections}

-- what split bytes open as, or their error
abbrev pub read_split : Result SectionBytes IndexFault → Result Parts IndexFault
read_split (Ok s) = read_sections s
read_split (Err fault) = Err fault

-- from `at` on, the offsets of the names and one more number
abbrev pub has_starts : List ℕ → ℕ → ℕ → List (List ℕ) → Bool
has_starts bytes at offset names = nat_eq (length bytes) (at + 4 * (length names + 1))
    && bytes_eq (numbers_from bytes at (length names)) (starts_from offset (map with_nul names))

-- The section does not begin with a string, so it is valid only if it is just its closing bytes.
pub record HasNoText (section : List ℕ) : Type 0 where
  pub closed : is_section (0 ∷ []) section ≡ bytes_eq section (0 ∷ [])
  pub bare : is_section [] section ≡ bytes_eq section []

-- All sections except the posting lists passed their tests. `room` is the length of the posting lists.
pub record AreValidSections (paths names name_index list_index : List ℕ) (room : ℕ) : Type 0 where
  pub each_path : is_section (0 ∷ []) paths ≡ true
  pub each_name : is_names_section names ≡ true
  pub offsets : is_name_index name_index (texts_of names) ≡ true
  pub entries : is_list_index room list_index ≡ true

-- Valid sections whose tables are shorter than 2^32 bytes.
pub record AreBoundedSections (paths names name_index list_index : List ℕ) (room : ℕ) : Type 0 where
  pub read : AreValidSections paths names name_index list_index room
  pub names_bound : length name_index < 2 ^ 32
  pub lists_bound : length list_index < 2 ^ 32

-- names, and a name index of them that is shorter than 2^32 bytes
pub record IsNameTable (names name_index : List ℕ) : Type 0 where
  pub each_name : is_names_section names ≡ true
  pub offsets : is_name_index name_index (texts_of names) ≡ true
  pub bound : length name_index < 2 ^ 32
