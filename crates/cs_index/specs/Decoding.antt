-- The index as it is read, as a relation: which bytes decode as which paths, names and posting lists.
-- docs/FORMAT.md, "The index as it is read".
use Rattle.std.specs.Prelude.{◌≡◌, ℕ, ◌+◌, ◌<◌, ◌≤◌, ◌^◌, ◌⊎◌, List, [], ◌∷◌, ◌++◌, length, map, flat_map}
use Rattle.cs_trigram.specs.Trigram.{Ascends, closing_trigram}
use Rattle.std.specs.List.{AllByRecursion, concat}
use Rattle.cs_index.specs.Encoding.{with_nul, SectionBytes, layout, ListEntry, entry_bytes, name_offsets, IsString}
use Rattle.cs_index.specs.OpenedParts.{Parts}

-- The numbers of an entry fit their widths, an entry of `ff ff ff` counts no file, and the section has four bytes at
-- the entry's offset.
pub record IsEntry (postings : List ℕ) (e : ListEntry) : Type 0 where
  pub trigram : (e.trigram < closing_trigram) ⊎ ((e.trigram ≡ closing_trigram) × (e.count ≡ 0))
  pub count : e.count < 2 ^ 32
  pub offset : e.offset < 2 ^ 32
  pub room : e.offset + 4 ≤ length postings

-- nonempty strings, each followed by a NUL, and then these bytes
abbrev pub AreStrings : List ℕ → List (List ℕ) → List ℕ → Type 0
AreStrings end texts bytes = AllByRecursion IsString texts × (bytes ≡ concat (map with_nul texts) ++ end)

-- names, and at most one final NUL
abbrev pub AreNames : List (List ℕ) → List ℕ → Type 0
AreNames names section = AreStrings (0 ∷ []) names section ⊎ AreStrings [] names section

-- the offset of each name, and any four bytes
abbrev pub AreOffsets : List (List ℕ) → List ℕ → Type 0
AreOffsets names section = (last : List ℕ) × (length last ≡ 4) × (section ≡ name_offsets names ++ last)

-- entries of ascending trigrams that fit the section of posting lists
abbrev pub AreEntries : List ℕ → List ListEntry → List ℕ → Type 0
AreEntries postings entries section =
    AllByRecursion (IsEntry postings) entries × Ascends (map (λ (e : ListEntry). e.trigram) entries)
    × (section ≡ flat_map entry_bytes entries)

-- The bytes are the layout of these sections.
pub record IsLayout (bytes : List ℕ) (s : SectionBytes) : Type 0 where
  pub bytes_are : bytes ≡ layout s
  pub short : length bytes < 2 ^ 32

-- The bytes decode as these parts.
pub record DecodesAs (bytes : List ℕ) (parts : Parts) : Type 0 where
  pub sections : SectionBytes
  pub is_layout : IsLayout bytes sections
  pub paths_are : AreStrings (0 ∷ []) parts.paths sections.paths
  pub names_are : AreNames parts.names sections.names
  pub postings_are : sections.postings ≡ parts.postings
  pub name_index_is : AreOffsets parts.names sections.name_index
  pub list_index_is : AreEntries sections.postings parts.entries sections.list_index
