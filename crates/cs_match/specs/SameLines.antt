-- Trees that match the same lines. docs/PATTERNS.md, "Matching".
use Rattle.std.specs.Prelude.{ℕ, List, ◌↔◌}
use Rattle.cs_syntax.specs.Matching.{Tree, MatchesSpan, HasMatch}

-- the trees have a match in the same lines
abbrev pub MatchSameLines : Tree → Tree → Type 0
MatchSameLines tree other = (line : List ℕ) → HasMatch tree line ↔ HasMatch other line

-- the trees match the same spans of each line
abbrev pub MatchSameSpans : Tree → Tree → Type 0
MatchSameSpans tree other = (line : List ℕ) (i j : ℕ) → MatchesSpan line tree i j ↔ MatchesSpan line other i j
