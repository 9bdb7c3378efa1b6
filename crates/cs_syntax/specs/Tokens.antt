-- The tokens of a pattern.
-- docs/PATTERNS.md, "Items".
use Rattle.std.specs.Prelude.{ℕ, ◌+◌, Bool, false, ◌&&◌, List, [], ◌∷◌, Option, nat_eq, nat_le, nat_lt, if◌then◌else◌, encode_utf8}
use Rattle.cs_syntax.specs.Matching.{Tree, Trees, empty, one_of, cat, none, more}
use Rattle.cs_syntax.specs.ByteSet.{char_set}
use Rattle.cs_syntax.specs.declared.items.Flags.{Flags}
use Rattle.cs_syntax.specs.declared.fault.PatternFault.{PatternFault}

pub data PatternItem : Type 0 where
  -- an operand for a repeat
  atom : Tree → PatternItem
  -- a repeat operator: at least n times, and at most m times if m is given
  repeat : ℕ → Option ℕ → PatternItem
  bar : PatternItem
  -- a group begins; these flags are in effect inside it
  group_start : Flags → PatternItem
  group_end : PatternItem
  -- these flags are in effect from here to the end of the group
  flags_from_here : Flags → PatternItem

-- A token at the start of a text: an item and the number of its bytes after the first; or an error and its distance
-- from the start.
pub data Token (A : Type 0) : Type 0 where
  item : A → ℕ → Token A
  fault : PatternFault → ℕ → Token A

-- a token made of another one; an error stays, `by` bytes further from the start
abbrev pub and_then : {A B : Type 0} → ℕ → (A → ℕ → Token B) → Token A → Token B
and_then by next (item x len) = next x len
and_then by next (fault k distance) = fault k (by + distance)

-- the text starts with the byte b
abbrev pub starts_with_byte : ℕ → List ℕ → Bool
starts_with_byte b [] = false
starts_with_byte b (c ∷ rest) = nat_eq c b

-- a UTF-8 continuation byte
abbrev pub is_continuation : ℕ → Bool
is_continuation b = nat_le 128 b && nat_lt b 192

-- the sequence of some atoms: no atom is the empty tree, a single atom is itself
abbrev pub sequence : Trees → Tree
sequence none = empty
sequence (more t none) = t
sequence (more t (more u us)) = cat (more t (more u us))

abbrev pub byte_sets : List ℕ → Trees
byte_sets [] = none
byte_sets (b ∷ bs) = more (one_of (char_set false b)) (byte_sets bs)

-- the sequence of the bytes
abbrev pub bytes_tree : List ℕ → Tree
bytes_tree bs = sequence (byte_sets bs)

-- A character: with `fold` an ASCII letter has both cases; a non-ASCII character is the sequence of its UTF-8 bytes.
abbrev pub char_tree : Bool → ℕ → Tree
char_tree fold c = if nat_lt c 128 then one_of (char_set fold c) else bytes_tree (encode_utf8 c)
