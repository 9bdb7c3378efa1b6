-- An index in a store: what is in memory, and the whole index in the bytes of the store.
-- docs/FORMAT.md, "The index as it is read".
use Rattle.std.specs.Prelude.{◌≡◌, ◌≤◌, ℕ, List, length, slice_range, Result, Ok, Err}
use Rattle.cs_index.specs.declared.fault.IndexFault.{IndexFault}
use Rattle.cs_index.specs.declared.reading.section_offsets.SectionOffsets.{SectionOffsets}
use Rattle.cs_index.specs.Decoding.{DecodesAs}
use Rattle.cs_index.specs.Encoding.{SectionBytes}
use Rattle.cs_index.specs.Failing.{Fails}
use Rattle.cs_index.specs.OpenedParts.{Parts}

-- The paths, the number of names, and the offset of each section.
pub record StoredParts : Type 0 where
  pub paths : List (List ℕ)
  pub name_count : ℕ
  pub starts : SectionOffsets

-- the sections at these offsets
abbrev pub sections_at : List ℕ → SectionOffsets → SectionBytes
sections_at bytes s = record {
  paths = slice_range bytes s.paths s.names;
  names = slice_range bytes s.names s.postings;
  postings = slice_range bytes s.postings s.name_index;
  name_index = slice_range bytes s.name_index s.list_index;
  list_index = slice_range bytes s.list_index s.trailer;
}

-- The bytes decode as these parts, and the sections are at these offsets.
pub record StandsIn (bytes : List ℕ) (stored : StoredParts) (parts : Parts) : Type 0 where
  pub decodes : DecodesAs bytes parts
  pub sections : decodes.sections ≡ sections_at bytes stored.starts
  pub within : stored.starts.trailer ≤ length bytes
  pub paths : stored.paths ≡ parts.paths
  pub names : stored.name_count ≡ length parts.names

-- the bytes decode as this index, or lack the part that this error names
abbrev pub DecodesOrFails : List ℕ → Result StoredParts IndexFault → Type 0
DecodesOrFails bytes (Ok stored) = (parts : Parts) × StandsIn bytes stored parts
DecodesOrFails bytes (Err fault) = Fails bytes fault
