-- The trees of sets of characters.
-- docs/PATTERNS.md, "Items".
use Rattle.std.specs.Prelude.{ℕ, Bool, List, ◌&&◌, nat_lt, if◌then◌else◌}
use Rattle.std.specs.List.{list_all}
use Rattle.cs_syntax.specs.Ranges.{is_in_ranges}
use Rattle.cs_syntax.specs.Characters.{canonical_ranges}
use Rattle.cs_syntax.specs.ByteSet.{set_of}
use Rattle.cs_syntax.specs.Matching.{Tree, one_of, one_char}

-- the ASCII characters of the ranges, as a set of bytes
abbrev pub ascii_set : List (ℕ × ℕ) → List Bool
ascii_set ranges = set_of (λ b. nat_lt b 128 && is_in_ranges ranges b)

-- all characters of the ranges are ASCII
abbrev pub are_ascii : List (ℕ × ℕ) → Bool
are_ascii ranges = list_all (λ range. nat_lt range.1 128) ranges

-- a set of bytes if all characters are ASCII, otherwise a set of characters
abbrev pub ranges_tree : List (ℕ × ℕ) → Tree
ranges_tree ranges = if are_ascii ranges then one_of (ascii_set ranges) else one_char ranges

-- the characters that satisfy the predicate
unfoldable pub chars_tree : (ℕ → Bool) → Tree
chars_tree test = ranges_tree (canonical_ranges test)
