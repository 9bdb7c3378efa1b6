-- The lines of a text. A line ends at a newline or at the end of the text, and does not contain its newline.
-- docs/PATTERNS.md, "Lines". (The `lines` of std removes a carriage return from the end of a line; this one
-- does not.)
use Rattle.std.specs.Prelude.{ℕ, nat_eq, if◌then◌else◌, List, [], ◌∷◌}
use Rattle.std.specs.List.{onto_first}

abbrev pub newline : ℕ
newline = 10

-- all lines of a text: its maximal parts without a newline, except an empty part at the end
unfoldable pub lines : List ℕ → List (List ℕ)
lines [] = []
lines (b ∷ text) = if nat_eq b newline then [] ∷ lines text else onto_first b (lines text)

-- the first line, if there is one, with a byte prepended
abbrev pub with_byte_in_line : ℕ → List (List ℕ) → List (List ℕ)
with_byte_in_line b [] = []
with_byte_in_line b (line ∷ rest) = (b ∷ line) ∷ rest

-- the lines that end at a newline
unfoldable pub terminated_lines : List ℕ → List (List ℕ)
terminated_lines [] = []
terminated_lines (b ∷ text) = if nat_eq b newline then [] ∷ terminated_lines text else with_byte_in_line b (terminated_lines text)
