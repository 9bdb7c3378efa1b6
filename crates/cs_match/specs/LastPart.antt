-- The part of a text after its terminated lines.
use Rattle.std.specs.Prelude.{ℕ, nat_eq, List, [], ◌∷◌}
use Rattle.std.specs.List.{after_last}
use Rattle.cs_match.specs.Lines.{newline}

-- the bytes after the last newline
unfoldable pub last_part : List ℕ → List ℕ
last_part text = after_last (λ b. nat_eq b newline) text

-- a last part that is not empty is a line
abbrev pub last_line : List ℕ → List (List ℕ)
last_line [] = []
last_line (b ∷ part) = (b ∷ part) ∷ []
