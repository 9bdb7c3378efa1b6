-- The weight of a tree, which is limited in a pattern.
-- docs/PATTERNS.md, "Weight".
use Rattle.std.specs.Prelude.{ℕ, ◌+◌, ◌*◌, max, length, Option}
use Rattle.std.specs.Option.{unwrap_or}
use Rattle.cs_syntax.specs.Matching.{Tree, Trees, one_char, cat, alt, rep, none, more}

-- the greatest weight of a pattern
abbrev pub max_weight : ℕ
max_weight = 10000

-- the number of copies of the repeated tree that a program needs
abbrev pub times : ℕ → Option ℕ → ℕ
times n m = max (unwrap_or m n) 1

-- a repeat weighs its tree once for each copy; a set of characters weighs as many ranges as it has, and at least 1
abbrev mutual
  pub weight : Tree → ℕ
  weight (one_char ranges) = max (length ranges) 1
  weight (cat ts) = 1 + weights ts
  weight (alt ts) = 1 + weights ts
  weight (rep x n m) = 1 + times n m * weight x
  weight part = 1

  pub weights : Trees → ℕ
  weights none = 0
  weights (more t ts) = weight t + weights ts
