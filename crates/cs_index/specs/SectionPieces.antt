-- Sections of an index that are tested piece by piece.
-- docs/FORMAT.md, "The index as it is read".
use Rattle.std.specs.Prelude.{◌≡◌, ◌≤◌, ◌<◌, ◌^◌, ℕ, Bool, true, false, ◌&&◌, nat_le, List, [], ◌∷◌, length, drop, Option, Some, None, ◌+◌, ◌-◌, Vec}
use Rattle.std.specs.declared.alloc.Global.{Global}
use Rattle.cs_tree.specs.Store.{part_of}
use Rattle.cs_index.specs.declared.reading.bytes.TextRun.{TextRun}
use Rattle.cs_index.specs.declared.reading.stored_sections.NameTest.{NameTest}
use Rattle.cs_index.specs.declared.reading.window.Window.{Window}
use Rattle.cs_index.specs.Encoding.{ListEntry}
use Rattle.cs_index.specs.Decoding.{AreStrings}
use Rattle.cs_index.specs.Opening.{is_entry, is_name_index, is_names_section, is_section, texts_of}
use Rattle.cs_index.specs.ValidSections.{HasNoText}

-- The bytes begin with a run of strings, and what follows does not begin with a string.
pub record IsTextRun (bytes : List ℕ) (run : TextRun) : Type 0 where
  pub within : run.len ≤ length bytes
  pub few : run.count ≤ run.len
  pub texts : List (List ℕ)
  pub count : length texts ≡ run.count
  pub strings : AreStrings (drop run.len bytes) texts bytes
  pub rest : HasNoText (drop run.len bytes)

-- The section is no strings with or without a final NUL.
pub record IsNoSection (section : List ℕ) : Type 0 where
  pub closed : is_section (0 ∷ []) section ≡ false
  pub bare : is_section [] section ≡ false

-- the trigrams are strictly ascending, from `least` on, and each entry fits a section of posting lists
abbrev pub are_entries : ℕ → ℕ → List ListEntry → Bool
are_entries room least [] = true
are_entries room least (e ∷ es) = nat_le least e.trigram && (is_entry room e && are_entries room (e.trigram + 1) es)

-- The window lies within a section that ends at `stop`.
pub record IsWindow (w : Window) (stop : ℕ) : Type 0 where
  pub within : w.start + length w.piece.items ≤ stop
  pub short : stop < 2 ^ 32

-- the bytes of the section from an offset of the window on
abbrev pub left_from : List ℕ → ℕ → Window → ℕ → List ℕ
left_from bytes stop w used = part_of bytes (w.start + used) (stop - (w.start + used))

-- the section is valid and these are its bytes, or it is not valid
abbrev pub ArePathsRead : List ℕ → Option (Vec ℕ Global) → Type 0
ArePathsRead section None = is_section (0 ∷ []) section ≡ false
ArePathsRead section (Some paths) = paths.items ≡ section

-- The section is valid, and has as many names.
pub record AreNamesIn (section name_index : List ℕ) (test : NameTest) : Type 0 where
  pub valid : is_names_section section ≡ true
  pub count : test.count ≡ length (texts_of section)
  pub offsets : test.have_offsets ≡ is_name_index name_index (texts_of section)

-- the names are valid, and this is their number and whether the name index has their offsets; or they are not valid
abbrev pub AreNamesTested : List ℕ → List ℕ → Option NameTest → Type 0
AreNamesTested section name_index None = is_names_section section ≡ false
AreNamesTested section name_index (Some test) = AreNamesIn section name_index test
