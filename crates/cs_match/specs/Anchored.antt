-- Anchored trees: each match begins at the start of the line.
use Rattle.std.specs.Prelude.{◌≡◌, Bool, true, false, ◌&&◌, not, nat_eq}
use Rattle.cs_syntax.specs.Matching.{Tree, Trees, empty, one_of, one_char, cat, alt, rep, line_start, line_end, word_edge, not_word_edge, none, more}

abbrev mutual
  pub is_anchored : Tree → Bool
  is_anchored empty = false
  is_anchored (one_of set) = false
  is_anchored (one_char ranges) = false
  is_anchored (cat ts) = begins_anchored ts
  is_anchored (alt ts) = are_anchored ts
  is_anchored (rep x n m) = not (nat_eq n 0) && is_anchored x
  is_anchored line_start = true
  is_anchored line_end = false
  is_anchored word_edge = false
  is_anchored not_word_edge = false

  -- the first tree is anchored
  pub begins_anchored : Trees → Bool
  begins_anchored none = false
  begins_anchored (more t ts) = is_anchored t

  -- all trees are anchored
  pub are_anchored : Trees → Bool
  are_anchored none = true
  are_anchored (more t ts) = is_anchored t && are_anchored ts

-- the flag says whether the tree is anchored
abbrev pub IsAnchorFlag : Tree → Bool → Type 0
IsAnchorFlag t flag = flag ≡ is_anchored t
