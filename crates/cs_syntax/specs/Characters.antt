-- Sets of characters, as inclusive ranges, and the UTF-8 encoding of a character in a line.
-- The Unicode standard, "Unicode scalar value" and table 3-6. docs/PATTERNS.md, "Characters".
use Rattle.std.specs.Prelude.{ℕ, ◌≡◌, ◌+◌, Bool, true, ◌||◌, ◌&&◌, nat_eq, nat_lt, nat_le, List, [], ◌∷◌, length, slice_range, encode_utf8, if◌then◌else◌}
use Rattle.std.specs.Char.{scalar_index}
use Rattle.std.specs.List.{filter, range_with_len}
use Rattle.cs_syntax.specs.Ranges.{is_in_ranges}

-- the number is a Unicode scalar value: at most 0x10ffff, and not a surrogate (0xd800 to 0xdfff)
abbrev pub is_scalar : ℕ → Bool
is_scalar c = nat_lt c 55296 || (nat_le 57344 c && nat_le c 1114111)

-- the number is a character in one of the ranges
abbrev pub has_char : List (ℕ × ℕ) → ℕ → Bool
has_char ranges c = is_scalar c && is_in_ranges ranges c

-- The ranges with one more character, which is below all of theirs. It extends the first range if they are adjacent.
abbrev pub with_char : ℕ → List (ℕ × ℕ) → List (ℕ × ℕ)
with_char c [] = (c, c) ∷ []
with_char c (range ∷ ranges) =
    if nat_eq (scalar_index c + 1) (scalar_index range.0) then (c, range.1) ∷ ranges else (c, c) ∷ range ∷ ranges

-- the maximal ranges of ascending characters
abbrev pub ranges_through : List ℕ → List (ℕ × ℕ)
ranges_through [] = []
ranges_through (c ∷ cs) = with_char c (ranges_through cs)

-- the canonical ranges of the characters that satisfy the predicate
unfoldable pub canonical_ranges : (ℕ → Bool) → List (ℕ × ℕ)
canonical_ranges test = ranges_through (filter (λ c. is_scalar c && test c) (range_with_len 0 1114112))

-- the text occurs in s between the offsets i and j
abbrev pub OccursBetween : List ℕ → List ℕ → ℕ → ℕ → Type 0
OccursBetween s text i j = (j ≡ i + length text) × (slice_range s i j ≡ text)

-- the span of s from i to j is the UTF-8 encoding of a character of the ranges
abbrev pub MatchesChar : List ℕ → List (ℕ × ℕ) → ℕ → ℕ → Type 0
MatchesChar s ranges i j = (c : ℕ) × (has_char ranges c ≡ true) × OccursBetween s (encode_utf8 c) i j
