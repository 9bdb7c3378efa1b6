-- Inclusive ranges of numbers: bytes or characters.
-- docs/PATTERNS.md, "Classes".
use Rattle.std.specs.Prelude.{ℕ, Bool, List, [], ◌∷◌, ◌&&◌, nat_le}
use Rattle.std.specs.List.{list_any}

-- the number is in one of the ranges
abbrev pub is_in_ranges : List (ℕ × ℕ) → ℕ → Bool
is_in_ranges ranges b = list_any (λ r. nat_le r.0 b && nat_le b r.1) ranges

-- the word bytes: 0-9, A-Z, _ and a-z
abbrev pub word_ranges : List (ℕ × ℕ)
word_ranges = (48, 57) ∷ (65, 90) ∷ (95, 95) ∷ (97, 122) ∷ []
