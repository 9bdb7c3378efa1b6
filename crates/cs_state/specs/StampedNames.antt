-- The names of a state: paths with stamps.
-- docs/FORMAT.md, "The state of a project".
use Rattle.std.specs.Prelude.{◌≡◌, ◌≢◌, ◌≤◌, ℕ, zero, suc, ◌+◌, ◌/◌, ◌%◌, nat_eq, true, List, [], ◌∷◌, ◌++◌, length, if◌then◌else◌, Contains}
use Rattle.std.specs.List.{AllByRecursion}
use Rattle.cs_index.specs.Encoding.{IsString}
use Rattle.cs_index.specs.OpenedParts.{Parts}
use Rattle.cs_tree.specs.Cover.{is_absolute}
use Rattle.cs_tree.specs.declared.tree.Stamp.{Stamp}
use Rattle.cs_state.specs.Known.{Kept, Known, indexed, binary, apart}

-- ---- stamps

-- a number of at most `room` digits: its digits to the base 64, the least first, as the bytes from 48 to 111, and a `!`
unfoldable pub number_within : ℕ → ℕ → List ℕ
number_within zero n = 33 ∷ []
number_within (suc room) n = if nat_eq n 0 then 33 ∷ [] else (48 + n % 64) ∷ number_within room (n / 64)

-- a number of eight bytes has at most 11 digits
unfoldable pub number_text : ℕ → List ℕ
number_text n = number_within 11 n

abbrev pub stamp_text : Stamp → List ℕ
stamp_text stamp =
    number_text stamp.device ++ (number_text stamp.inode ++ (number_text stamp.size ++ (number_text stamp.modified ++ number_text stamp.changed)))

-- ---- names

-- what follows the path: a byte that no learnable path has, and a slash
abbrev pub mark : List ℕ
mark = 1 ∷ 47 ∷ []

-- the last byte: `t`, `b` or `a`
abbrev pub kind_byte : Kept → ℕ
kind_byte indexed = 116
kind_byte binary = 98
kind_byte apart = 97

-- a path, the mark, the text of a stamp, and the byte of what the file is
abbrev pub name_of : List ℕ → List ℕ → Kept → List ℕ
name_of path text kept = path ++ (mark ++ (text ++ kind_byte kept ∷ []))

-- the stamped name of a file
abbrev pub stamped : Known → List ℕ
stamped known = name_of known.name (stamp_text known.stamp) known.kept

-- the path that covers the stamped names of the file with this name, and no others
abbrev pub cover_of : List ℕ → List ℕ
cover_of name = name ++ 1 ∷ []

-- ---- what a state knows

-- the path has no byte 1
abbrev pub IsUnmarked : List ℕ → Type 0
IsUnmarked path = AllByRecursion (λ b. b ≢ 1) path

-- A file with this name can be learned: the name is absolute, a string of an index, unmarked, and so short that its stamped
-- names have at most the 4,095 bytes that a name of an index may have.
pub record IsLearnable (name : List ℕ) : Type 0 where
  pub absolute : is_absolute name ≡ true
  pub string : IsString name
  pub unmarked : IsUnmarked name
  pub short : length name ≤ 4000

-- the state knows a file if its stamped name is a name of the index
abbrev pub Knows : Parts → Known → Type 0
Knows parts known = IsLearnable known.name × Contains parts.names (stamped known)
