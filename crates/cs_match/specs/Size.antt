-- The size of a program, by the weight of its pattern. docs/PATTERNS.md, "Weight".
use Rattle.std.specs.Prelude.{ℕ, ◌+◌, ◌*◌, ◌≤◌}
use Rattle.cs_syntax.specs.Matching.{Tree, Trees, cat, alt, rep, none, more}
use Rattle.cs_syntax.specs.Weight.{weight}
use Rattle.cs_match.specs.Glushkov.{position_count}

-- the number of nodes of a tree
abbrev mutual
  pub nodes : Tree → ℕ
  nodes (cat ts) = 1 + nodes_of ts
  nodes (alt ts) = 1 + nodes_of ts
  nodes (rep x n m) = 1 + nodes x
  nodes leaf = 1

  pub nodes_of : Trees → ℕ
  nodes_of none = 0
  nodes_of (more t ts) = nodes t + nodes_of ts

-- the most positions for a unit of weight: a set of characters has two
abbrev pub positions_per_weight : ℕ
positions_per_weight = 2

-- the most nodes for a unit of weight: an optional copy has two more than the copy
abbrev pub nodes_per_weight : ℕ
nodes_per_weight = 3

-- the program has at most so many positions and nodes for each unit of the pattern's weight
pub record FitsWeight (program pattern : Tree) : Type 0 where
  pub positions : position_count program ≤ positions_per_weight * weight pattern
  pub nodes : nodes program ≤ nodes_per_weight * weight pattern
