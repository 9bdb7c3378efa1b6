-- The paths, the names and the tables of an index, which are in memory. Its posting lists may be in a store.
-- docs/FORMAT.md, "The index as it is read".
use Rattle.std.specs.Prelude.{◌≡◌, ◌<◌, ◌-◌, true, ℕ, List, length, slice_range, Result, Ok, Err}
use Rattle.std.specs.List.{AllByRecursion, list_all}
use Rattle.cs_index.specs.declared.fault.IndexFault.{IndexFault}
use Rattle.cs_index.specs.declared.reading.section_offsets.SectionOffsets.{SectionOffsets}
use Rattle.cs_index.specs.MaxNames.{max_names}
use Rattle.cs_index.specs.Encoding.{IsString, ListEntry}
use Rattle.cs_index.specs.OpenedParts.{Parts}
use Rattle.cs_index.specs.Opening.{entries_in, is_entry, opening, rises, texts_of}
use Rattle.cs_index.specs.Stored.{StandsIn, StoredParts}

-- The paths, the names, the entries of the list index, and the offset of each section.
pub record TableParts : Type 0 where
  pub paths : List (List ℕ)
  pub names : List (List ℕ)
  pub entries : List ListEntry
  pub starts : SectionOffsets

abbrev pub tables_of : List ℕ → List ℕ → List ℕ → SectionOffsets → TableParts
tables_of paths names list_index starts =
    record { paths = texts_of paths; names = texts_of names; entries = entries_in list_index; starts = starts }

-- the parts of an index that has these tables
abbrev pub parts_with : List ℕ → TableParts → Parts
parts_with bytes tables = record {
  paths = tables.paths;
  names = tables.names;
  entries = tables.entries;
  postings = slice_range bytes tables.starts.postings tables.starts.name_index;
}

-- the bytes open as this index, or with this error
abbrev pub OpensAs : List ℕ → Result StoredParts IndexFault → Type 0
OpensAs bytes (Ok stored) = (parts : Parts) × StandsIn bytes stored parts
OpensAs bytes (Err fault) = opening bytes ≡ Err fault

-- The bytes are the index of these parts, and the tables are its tables.
pub record TablesIn (bytes : List ℕ) (tables : TableParts) (parts : Parts) : Type 0 where
  pub stands : StandsIn bytes (record { paths = tables.paths; name_count = length tables.names; starts = tables.starts }) parts
  pub names : tables.names ≡ parts.names
  pub entries : tables.entries ≡ parts.entries

-- the bytes open as an index with these tables, or with this error
abbrev pub OpensAsTables : List ℕ → Result TableParts IndexFault → Type 0
OpensAsTables bytes (Ok tables) = (parts : Parts) × TablesIn bytes tables parts
OpensAsTables bytes (Err fault) = opening bytes ≡ Err fault

-- the length of the section of posting lists
abbrev pub lists_room : TableParts → ℕ
lists_room tables = tables.starts.name_index - tables.starts.postings

-- Paths and names are strings, the entries have ascending trigrams and fit the section of posting lists, and
-- `ff ff ff` has no file.
pub record AreValidTables (tables : TableParts) : Type 0 where
  pub each_path : AllByRecursion IsString tables.paths
  pub each_name : AllByRecursion IsString tables.names
  pub names_bound : length tables.names < max_names
  pub rise : rises tables.entries ≡ true
  pub fit : list_all (λ e. is_entry (lists_room tables) e) tables.entries ≡ true
