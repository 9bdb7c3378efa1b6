-- Sufficient conditions for bytes to break no rule.
use Rattle.std.specs.Prelude.{◌≡◌, ℕ, ◌+◌, ◌<◌, true, nat_eq, if◌then◌else◌, List, [], ◌∷◌}
use Rattle.cs_trigram.specs.Text.{valid_utf8_pair}

-- no byte is 00, and each may follow the one before it; `before` is the one before the first
abbrev pub AreValidPairs : ℕ → List ℕ → Type 0
AreValidPairs before [] = Unit {0}
AreValidPairs before (b ∷ rest) = (0 < b) × (valid_utf8_pair before b ≡ true) × AreValidPairs b rest

-- the column after one more byte
abbrev pub next_column : ℕ → ℕ → ℕ
next_column column b = if nat_eq b 10 then 0 else column + 1

-- the column after some more bytes
abbrev pub column_after : ℕ → List ℕ → ℕ
column_after column [] = column
column_after column (b ∷ rest) = column_after (next_column column b) rest

-- no line is too long, if the first byte has this column
abbrev pub LinesFit : ℕ → ℕ → List ℕ → Type 0
LinesFit most column [] = Unit {0}
LinesFit most column (b ∷ rest) = (column < most) × LinesFit most (next_column column b) rest
