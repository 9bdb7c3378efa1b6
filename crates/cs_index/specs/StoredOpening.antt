-- The steps of opening a stored index: section offsets, then sections.
use Rattle.std.specs.Prelude.{◌≡◌, ◌≤◌, ◌<◌, ◌^◌, ◌&&◌, nat_eq, nat_le, nat_lt, ℕ, Bool, true, false, List, length, Result, Ok, Err}
use Rattle.cs_index.specs.declared.fault.IndexFault.{IndexFault}
use Rattle.cs_index.specs.declared.fault.IndexFault.TheVariants.{BadOffsets}
use Rattle.cs_index.specs.declared.reading.section_offsets.SectionOffsets.{SectionOffsets}
use Rattle.std.specs.List.{ends_with}
use Rattle.cs_index.specs.Encoding.{SectionBytes, trailer_magic}
use Rattle.cs_index.specs.Opening.{are_section_offsets, split_of, number_at}
use Rattle.cs_index.specs.Stored.{sections_at}

-- the last bytes of `len` bytes are a trailer
abbrev pub is_tail : List ℕ → ℕ → Bool
is_tail tail len = nat_le 52 len && (nat_lt len (2 ^ 32) && (nat_le 36 (length tail) && ends_with nat_eq tail trailer_magic))

-- The section offsets are ascending.
pub record AreAscendingOffsets (s : SectionOffsets) : Type 0 where
  pub order : are_section_offsets s.paths s.names s.postings s.name_index s.list_index s.trailer ≡ true
  pub short : s.trailer < 2 ^ 32

-- The section offsets are those of a trailer that begins at `at`.
pub record AreTrailerOffsets (trailer : List ℕ) (at : ℕ) (s : SectionOffsets) : Type 0 where
  pub paths : s.paths ≡ number_at trailer 0
  pub names : s.names ≡ number_at trailer 4
  pub postings : s.postings ≡ number_at trailer 8
  pub name_index : s.name_index ≡ number_at trailer 12
  pub list_index : s.list_index ≡ number_at trailer 16
  pub trailer_there : s.trailer ≡ at
  pub order : are_section_offsets s.paths s.names s.postings s.name_index s.list_index at ≡ true

-- The section offsets of the trailer are not ascending.
pub record AreDisorderedOffsets (trailer : List ℕ) (at : ℕ) (fault : IndexFault) : Type 0 where
  pub is : fault ≡ BadOffsets
  pub disorder : are_section_offsets (number_at trailer 0) (number_at trailer 4) (number_at trailer 8)
      (number_at trailer 12) (number_at trailer 16) at ≡ false

-- the bytes split at these offsets, or have this error
abbrev pub IsSplitAt : List ℕ → Result SectionOffsets IndexFault → Type 0
IsSplitAt bytes (Ok s) = (split_of bytes ≡ Ok (sections_at bytes s)) × (s.trailer ≤ length bytes)
IsSplitAt bytes (Err fault) = split_of bytes ≡ Err fault

-- the sections with these posting lists
abbrev pub with_lists : List ℕ → List ℕ → List ℕ → List ℕ → List ℕ → SectionBytes
with_lists paths names name_index list_index postings =
    record { paths = paths; names = names; postings = postings; name_index = name_index; list_index = list_index }
