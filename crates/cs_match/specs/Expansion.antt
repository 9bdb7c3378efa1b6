-- The expansion of a tree: counted repeats are written out as copies, so that each repeat is a loop of at
-- least 0 or 1 iterations, and an alternation of sets of bytes is one set. docs/PATTERNS.md, "Matching".
use Rattle.std.specs.Prelude.{ℕ, zero, suc, ◌-◌, Bool, List, Option, Some, None, nat_le, if◌then◌else◌}
use Rattle.std.specs.Option.{option_map_or}
use Rattle.cs_syntax.specs.ByteSet.{union}
use Rattle.cs_syntax.specs.Matching.{Tree, Trees, empty, one_of, one_char, cat, alt, rep, line_start, line_end, word_edge, not_word_edge, none, more}
use Rattle.cs_syntax.specs.TreeList.{append}

-- n copies of t, followed by the rest
abbrev pub copies : ℕ → Tree → Trees → Trees
copies zero t rest = rest
copies (suc n) t rest = more t (copies n t rest)

-- the trees, followed by n copies of t
abbrev pub with_copies : Trees → ℕ → Tree → Trees
with_copies ts n t = append ts (copies n t none)

-- t or nothing
abbrev pub optional : Tree → Tree
optional t = alt (more t (more empty none))

-- matches no span of any line
abbrev pub never : Tree
never = alt none

-- a star; or n - 1 copies and a loop of at least one iteration; or n copies and m - n optional ones
abbrev pub repeat_expansion : Tree → ℕ → Option ℕ → Tree
repeat_expansion t zero None = rep t 0 None
repeat_expansion t (suc n) None = cat (copies n t (more (rep t 1 None) none))
repeat_expansion t n (Some m) =
    if nat_le n m then cat (copies n t (copies (m - n) (optional t) none)) else never

-- the bytes of the set and of the trees, if these are sets of bytes
abbrev pub union_with : List Bool → Trees → Option (List Bool)
union_with set none = Some set
union_with set (more (one_of other) ts) = union_with (union set other) ts
union_with set ts = None

abbrev pub union_of : Trees → Option (List Bool)
union_of (more (one_of set) ts) = union_with set ts
union_of ts = None

-- the alternation of the trees; if they are sets of bytes, their union
abbrev pub alternation : Trees → Tree
alternation ts = option_map_or one_of (union_of ts) (alt ts)

-- the expansion of each subtree
abbrev mutual
  pub expansion : Tree → Tree
  expansion empty = empty
  expansion (one_of set) = one_of set
  expansion (one_char ranges) = one_char ranges
  expansion (cat ts) = cat (expansions ts)
  expansion (alt ts) = alternation (expansions ts)
  expansion (rep x n m) = repeat_expansion (expansion x) n m
  expansion line_start = line_start
  expansion line_end = line_end
  expansion word_edge = word_edge
  expansion not_word_edge = not_word_edge

  pub expansions : Trees → Trees
  expansions none = none
  expansions (more t ts) = more (expansion t) (expansions ts)
