-- Reading the names of an index in a store by their ids.
-- docs/FORMAT.md, "The index as it is read".
use Rattle.std.specs.Prelude.{◌≡◌, ◌≤◌, ◌+◌, ◌-◌, ◌*◌, true, ℕ, List, length, Option, None, Some, Result}
use Rattle.std.specs.Result.{IsOkAnd}
use Rattle.cs_tree.specs.Store.{part_of}
use Rattle.cs_index.specs.declared.reading.name_reader.NameReader.{NameReader}
use Rattle.cs_index.specs.OpenedParts.{Parts}
use Rattle.cs_index.specs.Opening.{is_name_index, is_names_section, texts_of}
use Rattle.cs_index.specs.declared.fault.IndexFault.{IndexFault}
use Rattle.cs_index.specs.Windows.{HasText, IsPiece}

abbrev pub name_section : List ℕ → NameReader → List ℕ
name_section bytes reader = part_of bytes reader.start (reader.end - reader.start)

-- The reader reads the names of these parts, which the bytes have in the sections at its offsets.
pub record ReadsNames (bytes : List ℕ) (parts : Parts) (reader : NameReader) : Type 0 where
  pub formed : is_names_section (name_section bytes reader) ≡ true
  pub offsets : is_name_index (part_of bytes reader.name_index (4 * (reader.name_count + 1))) (texts_of (name_section bytes reader)) ≡ true
  pub names : parts.names ≡ texts_of (name_section bytes reader)
  pub count : reader.name_count ≡ length parts.names
  pub within : reader.end ≤ length bytes
  pub offset_piece : IsPiece bytes reader.offsets
  pub name_piece : IsPiece bytes reader.names

-- this is the name that the reader read last
abbrev pub HasName : NameReader → List ℕ → Type 0
HasName reader name = HasText reader.names reader.at name (Some reader.len)

-- the reader has read this name, if there is one
abbrev pub IsName : Option (List ℕ) → Result (Unit {0}) IndexFault → NameReader → Type 0
IsName None answer reader = Unit {0}
IsName (Some name) answer reader = IsOkAnd answer (λ _. HasName reader name)
