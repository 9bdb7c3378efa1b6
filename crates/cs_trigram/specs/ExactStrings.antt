-- The exact strings of a finite tree: all strings that it may match with its repeats bounded.
-- docs/PATTERNS.md, "Queries".
use Rattle.std.specs.Prelude.{ℕ, ◌≡◌, ◌≤◌, ◌&&◌, Bool, true, false, List, length, nat_le, Some, None, IsTrue}
use Rattle.cs_tree.specs.Cover.{is_among}
use Rattle.cs_trigram.specs.MayMatch.{MayMatchSequence}
use Rattle.cs_syntax.specs.Matching.{Tree, Trees, cat, alt, rep, none, more}

-- each repeat in the tree has an upper bound
abbrev mutual
  pub is_finite : Tree → Bool
  is_finite (cat ts) = are_finite ts
  is_finite (alt ts) = are_finite ts
  is_finite (rep x n None) = false
  is_finite (rep x n (Some m)) = nat_le n m && is_finite x
  is_finite part = true

  pub are_finite : Trees → Bool
  are_finite none = true
  are_finite (more t ts) = is_finite t && are_finite ts

-- the trees are finite, and the concatenations of their strings are at least one and at most n
abbrev pub HaveExactStrings : ℕ → Trees → Type 0
HaveExactStrings n ts =
    (are_finite ts ≡ true)
    × (((string : List ℕ) × MayMatchSequence true ts string)
    × ((strings : List (List ℕ)) × (length strings ≤ n)
    × ((string : List ℕ) → MayMatchSequence true ts string → IsTrue (is_among strings string))))

-- they are few: at most twenty
abbrev pub HaveFewExactStrings : Trees → Type 0
HaveFewExactStrings ts = HaveExactStrings 20 ts

-- each exact string of the trees has at least n bytes
abbrev pub HaveLongStrings : ℕ → Trees → Type 0
HaveLongStrings n ts = (string : List ℕ) → MayMatchSequence true ts string → n ≤ length string
