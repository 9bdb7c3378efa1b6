-- The bytes of a store that are in memory, and the texts in them.
use Rattle.std.specs.Prelude.{◌≡◌, ◌<◌, ◌≤◌, ◌+◌, ◌-◌, ℕ, List, ◌++◌, drop, take, length, Option, Some, IsUtf8}
use Rattle.cs_tree.specs.Store.{part_of}
use Rattle.cs_index.specs.declared.reading.window.Window.{Window}
use Rattle.cs_index.specs.Encoding.{with_nul, IsString}

-- these are the bytes at the offset
abbrev pub StandAt : List ℕ → ℕ → List ℕ → Type 0
StandAt bytes at part = part ≡ part_of bytes at (length part)

-- the window has the bytes at its offset
abbrev pub IsPiece : List ℕ → Window → Type 0
IsPiece bytes w = StandAt bytes w.start w.piece.items

-- what it has from an offset on stands there
abbrev pub HasFrom : List ℕ → Window → ℕ → Type 0
HasFrom bytes w at = w.start ≤ at → StandAt bytes at (drop (at - w.start) w.piece.items)

-- The string stands at an offset of the bytes, with its NUL before the end.
pub record StandsAt (bytes : List ℕ) (at end : ℕ) (text : List ℕ) : Type 0 where
  pub more : List ℕ
  pub there : drop at bytes ≡ with_nul text ++ more
  pub string : IsString text
  pub within : at + length text < end
  pub ends : end ≤ length bytes

-- The text was found at an offset of the window, and this is its length.
pub record HasText (w : Window) (at : ℕ) (text : List ℕ) (found : Option ℕ) : Type 0 where
  pub len : found ≡ Some (length text)
  pub from : w.start ≤ at
  pub within : at + length text ≤ w.start + length w.piece.items
  pub there : take (length text) (drop (at - w.start) w.piece.items) ≡ text
  pub utf8 : IsUtf8 text
