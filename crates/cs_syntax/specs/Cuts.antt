-- Cuts of the numbers into intervals: all numbers of an interval are in the same sets of characters, and either all of
-- them are characters or none is. So one number of an interval stands for all of them.
use Rattle.std.specs.Prelude.{ℕ, ◌+◌, max, List, [], ◌∷◌, ◌++◌, ◌↔◌, nat_le, if◌then◌else◌}
use Rattle.std.specs.List.{Contains}
use Rattle.std.specs.List.Sorted.{IsStrictlyIncreasing}
use Rattle.cs_syntax.specs.Matching.{Tree, Trees, one_char, cat, alt, rep, none, more}

-- the ranges of all sets of characters of a tree
abbrev mutual
  pub char_ranges : Tree → List (ℕ × ℕ)
  char_ranges (one_char ranges) = ranges
  char_ranges (cat ts) = all_char_ranges ts
  char_ranges (alt ts) = all_char_ranges ts
  char_ranges (rep x n m) = char_ranges x
  char_ranges part = []

  pub all_char_ranges : Trees → List (ℕ × ℕ)
  all_char_ranges none = []
  all_char_ranges (more t ts) = char_ranges t ++ all_char_ranges ts

-- 0, the first characters with two, three and four bytes, the ends of the surrogates, and the end of the characters
abbrev pub utf8_cuts : List ℕ
utf8_cuts = 0 ∷ 0x80 ∷ 0x800 ∷ 0xd800 ∷ 0xe000 ∷ 0x10000 ∷ 0x110000 ∷ []

-- the first number of each range, and the first number after it
abbrev pub range_cuts : List (ℕ × ℕ) → List ℕ
range_cuts [] = []
range_cuts (range ∷ ranges) = range.0 ∷ (range.1 + 1) ∷ range_cuts ranges

-- the cuts separate the characters from other numbers, and the members of the ranges from others
abbrev pub Divide : List ℕ → List (ℕ × ℕ) → Type 0
Divide cuts ranges = (k : ℕ) → Contains (utf8_cuts ++ range_cuts ranges) k → Contains cuts k

-- the cuts ascend, and are those of UTF-8 and maybe others
abbrev pub AreCuts : List ℕ → Type 0
AreCuts cuts = IsStrictlyIncreasing cuts × Divide cuts []

-- the cuts of the sets of characters of a tree
pub record AreCutsOf (tree : Tree) (cuts : List ℕ) : Type 0 where
  pub ascending : IsStrictlyIncreasing cuts
  pub members : (k : ℕ) → Contains cuts k ↔ Contains (utf8_cuts ++ range_cuts (char_ranges tree)) k

-- the greatest cut that is not above n, where its interval begins; 0 if there is none
abbrev pub floor : List ℕ → ℕ → ℕ
floor [] n = 0
floor (cut ∷ cuts) n = max (if nat_le cut n then cut else 0) (floor cuts n)
