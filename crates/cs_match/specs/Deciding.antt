-- Tests of lines. docs/PATTERNS.md, "Matching".
use Rattle.std.specs.Prelude.{ℕ, Bool, List, IsTrue, ◌↔◌}
use Rattle.cs_syntax.specs.Matching.{Tree, HasMatch}

-- the test decides whether a line has a match
abbrev pub Decides : (List ℕ → Bool) → Tree → Type 0
Decides test tree = (line : List ℕ) → IsTrue (test line) ↔ HasMatch tree line
