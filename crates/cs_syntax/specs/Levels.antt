-- The number of levels of a suffix: one for each open group, and one for the text itself.
-- docs/PATTERNS.md, "Patterns".
use Rattle.std.specs.Prelude.{◌≡◌, List, length}
use Rattle.cs_syntax.specs.Parsing.{SuffixParse, Group, levels, syntax_error}

-- the suffix has one level more than there are open groups
abbrev pub HasLevels : SuffixParse → List Group → Type 0
HasLevels (levels l ls) groups = length ls ≡ length groups
HasLevels (syntax_error k offset) groups = Unit {0}
