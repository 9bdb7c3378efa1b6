-- The parts of a program: its tree without the sets. A run of positions is one part.
use Rattle.std.specs.Prelude.{ℕ, suc, ◌≡◌, ◌+◌, sum, Bool, List, [], ◌∷◌, map, None}
use Rattle.cs_syntax.specs.Matching.{Tree, Trees, one_of, cat, alt, rep, line_start, line_end, word_edge, not_word_edge, none, more}
use Rattle.cs_syntax.specs.Node.{trees}
use Rattle.cs_match.specs.declared.state.LookAround.{LookAround}
use Rattle.cs_match.specs.declared.parts.Fragment.{Fragment}
use Rattle.cs_match.specs.declared.parts.Fragment.TheOpen.{Fragment-F}
use Rattle.cs_match.specs.declared.parts.Fragment.TheFolds.{fold-Fragment}
use Rattle.cs_match.specs.Glushkov.{position_count, position_count_of, repeats, nullable, is_final, loop_ends}
use Rattle.cs_match.specs.Expansion.{copies}
use Rattle.cs_match.specs.Entered.{entered}
use Rattle.cs_match.specs.Work.{words}

-- a sequence of n sets of bytes; where positions are entered it does not matter which sets they are
abbrev pub run : ℕ → Tree
run n = cat (copies n (one_of []) none)

-- such sequences, by the number of positions after the first of each
abbrev pub runs : List ℕ → Trees
runs [] = none
runs (n ∷ ns) = more (run (suc n)) (runs ns)

-- a sequence of n sets of bytes, or nothing
abbrev pub optional_run : ℕ → Tree
optional_run n = alt (more (run n) (more (run 0) none))

-- such options one after another
abbrev pub options : ℕ → ℕ → Tree
options n count = cat (copies count (optional_run n) none)

-- the shape of a part: a tree with such sets
abbrev pub shape_step : Fragment-F Tree → Tree
shape_step (Fragment-F.Run n) = run n
shape_step (Fragment-F.Alternation ns) = alt (runs ns)
shape_step (Fragment-F.Options n count) = options n count
shape_step (Fragment-F.Cat parts) = cat (trees parts.items)
shape_step (Fragment-F.Alt parts) = alt (trees parts.items)
shape_step (Fragment-F.Rep x n) = rep x.value n None
shape_step Fragment-F.LineStart = line_start
shape_step Fragment-F.LineEnd = line_end
shape_step Fragment-F.WordEdge = word_edge
shape_step Fragment-F.NotWordEdge = not_word_edge

abbrev pub shape_of : Fragment → Tree
shape_of = fold-Fragment Tree shape_step

abbrev pub shapes_of : List Fragment → Trees
shapes_of ps = trees (map shape_of ps)

-- the steps of a traversal: it visits each part and each option once, and of an alternation of sequences each word of
-- its positions
abbrev pub size_step : Fragment-F ℕ → ℕ
size_step (Fragment-F.Run n) = 1
size_step (Fragment-F.Alternation ns) = 1 + words (position_count_of (runs ns))
size_step (Fragment-F.Options n count) = 1 + count
size_step (Fragment-F.Cat parts) = 1 + sum parts.items
size_step (Fragment-F.Alt parts) = 1 + sum parts.items
size_step (Fragment-F.Rep x n) = 1 + x.value
size_step Fragment-F.LineStart = 1
size_step Fragment-F.LineEnd = 1
size_step Fragment-F.WordEdge = 1
size_step Fragment-F.NotWordEdge = 1

abbrev pub size_of : Fragment → ℕ
size_of = fold-Fragment ℕ size_step

abbrev pub sizes_of : List Fragment → ℕ
sizes_of ps = sum (map size_of ps)

-- trees whose position sets enter and end alike, whatever their sets are
pub record HaveSameShape (t s : Tree) : Type 0 where
  pub positions : position_count t ≡ position_count s
  pub repeats : repeats t ≡ repeats s
  pub nullable : (a : LookAround) → nullable t a ≡ nullable s a
  pub final : (ms : List Bool) (a : LookAround) → is_final t ms a ≡ is_final s ms a
  pub ends : (ms : List Bool) (a : LookAround) → loop_ends t ms a ≡ loop_ends s ms a
  pub entered : (enter : Bool) (ms : List Bool) (a : LookAround) → entered t enter ms a ≡ entered s enter ms a
