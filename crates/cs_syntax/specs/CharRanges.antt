-- Canonical ranges of characters (as in Rust's `regex-syntax`).
-- docs/PATTERNS.md, "Classes".
use Rattle.std.specs.Prelude.{ℕ, ◌≡◌, ◌+◌, ◌≤◌, true, List, [], ◌∷◌}
use Rattle.std.specs.Char.{scalar_index}
use Rattle.cs_syntax.specs.Characters.{is_scalar}

-- an inclusive range between two characters
abbrev pub IsCharRange : ℕ × ℕ → Type 0
IsCharRange range = (range.0 ≤ range.1) × (is_scalar range.0 ≡ true) × (is_scalar range.1 ≡ true)

-- The ranges ascend, and each is separated from the next by at least one character. Characters are compared by their
-- index among all characters, so 0xd7ff and 0xe000 are adjacent. The first range begins at the index `least` or later.
abbrev pub AreCanonicalFrom : ℕ → List (ℕ × ℕ) → Type 0
AreCanonicalFrom least [] = Unit {0}
AreCanonicalFrom least (range ∷ ranges) =
    (least ≤ scalar_index range.0) × IsCharRange range × AreCanonicalFrom (scalar_index range.1 + 2) ranges

-- the ranges ascend and are maximal
abbrev pub AreCanonical : List (ℕ × ℕ) → Type 0
AreCanonical ranges = AreCanonicalFrom 0 ranges
