-- A borrowed transition table, as scans see it: no more of states is known than their numbers.
use Rattle.std.specs.Prelude.{ℕ, ◌≡◌, ◌<◌, ◌≤◌, ◌+◌, ◌*◌, ◌⊎◌, Bool, if◌then◌else◌, List, [], ◌∷◌, ◌++◌, length, slice_index}
use Rattle.cs_tree.specs.ByteList.{AreBytes}
use Rattle.cs_match.specs.declared.lanes.Table.{Table}
use Rattle.cs_match.specs.Lines.{newline}
use Rattle.cs_match.specs.NoNewline.{HasNoNewline}

-- the class of a byte
abbrev pub class_of : Table → ℕ → ℕ
class_of t b = slice_index t.of.now b

-- the transition of a state over a byte
abbrev pub next_number : Table → ℕ → ℕ → ℕ
next_number t number b = slice_index t.transitions.now (number + class_of t b)

-- the state number after a text
unfoldable pub number_after : Table → ℕ → List ℕ → ℕ
number_after t number [] = number
number_after t number (b ∷ text) = number_after t (next_number t number b) text

-- the state *found*: a line that has a match ends here
abbrev pub found : ℕ
found = 0

-- the state *unknown*: a transition is not computed yet
abbrev pub unknown : Table → ℕ
unknown t = t.count

-- the start state, where a scan begins and where other lines end
abbrev pub table_start : Table → ℕ
table_start t = 4 * t.count

-- the number is that of a row of the table
pub record IsRow (t : Table) (number : ℕ) : Type 0 where
  pub slot : ℕ
  pub is : number ≡ slot * t.count
  pub within : number + t.count ≤ length t.transitions.now

-- The start state has a row, each transition leads to a row, and to *found* over the newline alone.
pub record HasRows (t : Table) : Type 0 where
  pub few : t.count ≤ 256
  pub class : (b : ℕ) → b < 256 → class_of t b < t.count
  pub first : IsRow t (table_start t)
  pub closed : (number b : ℕ) → IsRow t number → b < 256 → IsRow t (next_number t number b)
  pub ends : (number b : ℕ) → IsRow t number → b < 256 → next_number t number b ≡ found → b ≡ newline

-- a line begins in the state in which the line before it ended
abbrev pub BeginsLine : Table → ℕ → Type 0
BeginsLine t number = (number ≡ found) ⊎ (number ≡ table_start t)

-- The table tells which lines have a match, except a line with an unknown transition.
pub record TellsLines (has_match : List ℕ → Bool) (t : Table) : Type 0 where
  pub absorbs : (b : ℕ) → b < 256 → next_number t (unknown t) b ≡ unknown t
  pub tells : (number : ℕ) (line : List ℕ) → BeginsLine t number → AreBytes line → HasNoNewline line →
      (number_after t number (line ++ newline ∷ []) ≡ unknown t)
      ⊎ (number_after t number (line ++ newline ∷ []) ≡ (if has_match line then found else table_start t))
