-- Decidability of matching. docs/PATTERNS.md, "Matching".
use Rattle.std.specs.Prelude.{ℕ, Bool, List}
use Rattle.cs_syntax.specs.Matching.{Tree}
use Rattle.cs_match.specs.Deciding.{Decides}

-- for each tree there is a test that decides whether a line has a match
abbrev pub MatchingIsDecidable : Type 0
MatchingIsDecidable = (tree : Tree) → (test : List ℕ → Bool) × Decides test tree
