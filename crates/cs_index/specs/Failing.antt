-- Why bytes do not open: the error of the first part that is missing.
-- docs/FORMAT.md, "The index as it is read".
use Rattle.std.specs.Prelude.{◌≡◌, ℕ, ◌<◌, ◌≤◌, ◌^◌, List, [], ◌∷◌, ◌++◌, length}
use Rattle.cs_index.specs.Encoding.{SectionBytes, magic, trailer_magic, ListEntry}
use Rattle.cs_index.specs.Decoding.{AreEntries, IsLayout, AreNames, AreOffsets, AreStrings}
use Rattle.cs_index.specs.declared.fault.IndexFault.{IndexFault}
use Rattle.cs_index.specs.declared.fault.IndexFault.TheVariants.{BadMagic, BadTrailer, BadOffsets, BadPaths, BadNames, BadNameIndex, BadListIndex}

abbrev pub HasMagic : List ℕ → Type 0
HasMagic bytes = (rest : List ℕ) × (bytes ≡ magic ++ rest)

-- The bytes end with the trailer's magic, are at least as long as an empty index, and shorter than 2^32
-- bytes.
pub record HasTrailer (bytes : List ℕ) : Type 0 where
  pub prefix : List ℕ
  pub ends : bytes ≡ prefix ++ trailer_magic
  pub room : 52 ≤ length bytes
  pub short : length bytes < 2 ^ 32

-- the section of paths is valid
abbrev pub HasPaths : SectionBytes → Type 0
HasPaths s = (paths : List (List ℕ)) × AreStrings (0 ∷ []) paths s.paths

-- the sections that are tested before the one that this error names are valid, and that one is not
abbrev pub FailWithin : SectionBytes → IndexFault → Type 0
FailWithin s BadPaths = ¬ (HasPaths s)
FailWithin s BadNames = HasPaths s × ((names : List (List ℕ)) → ¬ (AreNames names s.names))
FailWithin s BadNameIndex =
    HasPaths s × (names : List (List ℕ)) × AreNames names s.names × ¬ (AreOffsets names s.name_index)
FailWithin s BadListIndex =
    HasPaths s × (names : List (List ℕ)) × AreNames names s.names × AreOffsets names s.name_index
    × ((entries : List ListEntry) → ¬ (AreEntries s.postings entries s.list_index))
FailWithin s fault = ⊥

-- the part that this error names is missing, and the parts that are tested before it are present
abbrev pub Fails : List ℕ → IndexFault → Type 0
Fails bytes BadMagic = ¬ (HasMagic bytes)
Fails bytes BadTrailer = HasMagic bytes × ¬ (HasTrailer bytes)
Fails bytes BadOffsets = HasMagic bytes × HasTrailer bytes × ((s : SectionBytes) → ¬ (IsLayout bytes s))
Fails bytes fault = (s : SectionBytes) × IsLayout bytes s × FailWithin s fault
