-- Patterns made of trees: either of two, a whole line, and a text whose characters stand for themselves.
-- docs/PATTERNS.md, "Lines and matching" and "Weight".
use Rattle.std.specs.Prelude.{ℕ, ◌↔◌, Bool, List, length, nat_lt, if◌then◌else◌, Result, Ok, Err}
use Rattle.std.specs.Str.{chars}
use Rattle.cs_syntax.specs.Matching.{Tree, Trees, cat, alt, line_start, line_end, none, more, MatchesSpan, HasMatch}
use Rattle.cs_syntax.specs.TreeList.{append}
use Rattle.cs_syntax.specs.Tokens.{sequence}
use Rattle.cs_syntax.specs.Quoting.{atoms_of}
use Rattle.cs_syntax.specs.Weight.{max_weight, weight}
use Rattle.cs_syntax.specs.declared.fault.PatternError.{PatternError}
use Rattle.cs_syntax.specs.declared.fault.PatternFault.TheVariants.{TooLarge}

-- the branches of an alternation; any other tree is its own branch
abbrev pub branches_of : Tree → Trees
branches_of (alt ts) = ts
branches_of t = more t none

-- a line that matches one of both
abbrev pub either : Tree → Tree → Tree
either x y = alt (append (branches_of x) (branches_of y))

-- a line that the tree matches from its start to its end
abbrev pub whole_line : Tree → Tree
whole_line t = cat (more line_start (more t (more line_end none)))

-- the characters of a text, none of which is a metacharacter; with `fold` an ASCII letter has both cases
abbrev pub literal : Bool → List ℕ → Tree
literal fold text = sequence (atoms_of fold (chars text))

-- a tree is a pattern unless it is too heavy
abbrev pub pattern_of : Tree → Result Tree PatternError
pattern_of t = if nat_lt max_weight (weight t) then Err (record { fault = TooLarge; at = 0 }) else Ok t

-- the tree of a whole line matches exactly the lines whose whole span the tree matches
abbrev pub MatchesWholeLine : Tree → Type 0
MatchesWholeLine t = (line : List ℕ) → HasMatch (whole_line t) line ↔ MatchesSpan line t 0 (length line)
