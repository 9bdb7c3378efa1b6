-- A text has exactly one parse or exactly one syntax error. docs/PATTERNS.md, "Syntax errors".
use Rattle.std.specs.Prelude.{ℕ, ◌≡◌, ◌⊎◌, Bool, List}
use Rattle.cs_syntax.specs.Matching.{Tree}
use Rattle.cs_syntax.specs.declared.fault.PatternFault.{PatternFault}
use Rattle.cs_syntax.specs.Parsing.{ParsesAs, HasSyntaxError}

-- the text parses as exactly one tree, or has exactly one syntax error, and never both
abbrev pub HasOneParse : List ℕ → Bool → Type 0
HasOneParse text fold =
    (((t : Tree) × ParsesAs text fold t) ⊎ ((k : PatternFault) × ((offset : ℕ) × HasSyntaxError text fold k offset)))
    × ((t u : Tree) → ParsesAs text fold t → ParsesAs text fold u → t ≡ u)
    × ((k j : PatternFault) (offset by : ℕ) → HasSyntaxError text fold k offset → HasSyntaxError text fold j by
    → (k ≡ j) × (offset ≡ by))
    × ((t : Tree) (k : PatternFault) (offset : ℕ) → ParsesAs text fold t → HasSyntaxError text fold k offset → ⊥)
