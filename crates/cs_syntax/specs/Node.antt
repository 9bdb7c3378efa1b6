-- The tree that a node of the code represents.
use Rattle.std.specs.Prelude.{List, [], ◌∷◌}
use Rattle.cs_syntax.specs.Matching.{Tree, Trees, empty, one_of, one_char, cat, alt, rep, line_start, line_end, word_edge, not_word_edge, none, more}
use Rattle.cs_syntax.specs.declared.node.Node.{Node}
use Rattle.cs_syntax.specs.declared.node.Node.TheOpen.{Node-F}
use Rattle.cs_syntax.specs.declared.node.Node.TheFolds.{fold-Node}

abbrev pub trees : List Tree → Trees
trees [] = none
trees (t ∷ ts) = more t (trees ts)

-- one step of the fold over a node: its children are trees already
abbrev pub tree_step : Node-F Tree → Tree
tree_step Node-F.Empty = empty
tree_step (Node-F.Set set) = one_of set
tree_step (Node-F.Chars ranges) = one_char ranges
tree_step (Node-F.Cat parts) = cat (trees parts.items)
tree_step (Node-F.Alt parts) = alt (trees parts.items)
tree_step (Node-F.Rep x n m) = rep x.value n m
tree_step Node-F.LineStart = line_start
tree_step Node-F.LineEnd = line_end
tree_step Node-F.WordEdge = word_edge
tree_step Node-F.NotWordEdge = not_word_edge

abbrev pub tree_of : Node → Tree
tree_of = fold-Node Tree tree_step
