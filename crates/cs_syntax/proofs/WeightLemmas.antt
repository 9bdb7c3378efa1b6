-- Weights are positive, and too many copies are too heavy.
use Rattle.std.proofs.Common.{ℕ, ◌+◌, ◌*◌, ◌<◌, ◌≤◌, arith}
use Rattle.cs_syntax.specs.Matching.{Tree, empty, one_of, one_char, cat, alt, rep, line_start, line_end, word_edge, not_word_edge}
use Rattle.cs_syntax.specs.Weight.{max_weight, weight}

pub weight_pos : (t : Tree) → 1 ≤ weight t
weight_pos empty = omega arith
weight_pos (one_of set) = omega arith
weight_pos (one_char ranges) = omega arith
weight_pos (cat ts) = omega arith
weight_pos (alt ts) = omega arith
weight_pos (rep x n m) = omega arith
weight_pos line_start = omega arith
weight_pos line_end = omega arith
weight_pos word_edge = omega arith
weight_pos not_word_edge = omega arith

pub heavy : (k w : ℕ) → max_weight ≤ k → 1 ≤ w → max_weight < 1 + k * w
heavy k w many some = grind arith
