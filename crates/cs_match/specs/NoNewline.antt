-- Parts of lines. docs/PATTERNS.md, "Lines".
use Rattle.std.specs.Prelude.{ℕ, nat_eq, false, ◌≡◌, List, [], ◌∷◌}
use Rattle.cs_match.specs.Lines.{newline}

-- the text contains no newline
abbrev pub HasNoNewline : List ℕ → Type 0
HasNoNewline [] = Unit {0}
HasNoNewline (b ∷ text) = (nat_eq b newline ≡ false) × HasNoNewline text
