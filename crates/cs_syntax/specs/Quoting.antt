-- The texts of patterns: a quoted text (Go: `regexp.QuoteMeta`) and a counted repeat.
-- docs/PATTERNS.md, "Items" and "Repeats".
use Rattle.std.specs.Prelude.{ℕ, Bool, List, [], ◌∷◌, ◌++◌, codes, decimal, flat_map, if◌then◌else◌}
use Rattle.cs_syntax.specs.Matching.{Trees, none, more}
use Rattle.cs_syntax.specs.NumberList.{has}
use Rattle.cs_syntax.specs.Tokens.{char_tree}

-- `{n,m}`
abbrev pub counted_repeat : ℕ → ℕ → List ℕ
counted_repeat n m = 123 ∷ (decimal n ++ 44 ∷ (decimal m ++ 125 ∷ []))

-- the metacharacters
abbrev pub metachars : List ℕ
metachars = codes "*+?{.^$|()[\\"

-- the text with a backslash before each metacharacter
abbrev pub quote_meta : List ℕ → List ℕ
quote_meta text = flat_map (λ b. if has metachars b then 92 ∷ b ∷ [] else b ∷ []) text

-- one atom for each character
abbrev pub atoms_of : Bool → List ℕ → Trees
atoms_of fold [] = none
atoms_of fold (c ∷ chars) = more (char_tree fold c) (atoms_of fold chars)
