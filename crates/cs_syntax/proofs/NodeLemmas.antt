-- The equations of `tree_of`, one for each variant.
use Rattle.std.proofs.Common.{◌≡◌, ℕ, Bool, List, Option, Vec, Box, Global, sym, ap, ◌∙◌}
use Rattle.cs_syntax.specs.Matching.{Tree, empty, one_of, one_char, cat, alt, rep, line_start, line_end, word_edge, not_word_edge}
use Rattle.cs_syntax.specs.Node.{tree_of, tree_step}
use Rattle.cs_syntax.specs.NodeList.{trees_of}
use Rattle.cs_syntax.specs.declared.node.Node.{Node, Node-F, fold-roll-Node}
use Rattle.cs_syntax.specs.declared.node.Node.TheVariants.{Empty, Set, Chars, Cat, Alt, Rep, LineStart, LineEnd, WordEdge, NotWordEdge, rolls-Empty, rolls-Set, rolls-Chars, rolls-Cat, rolls-Alt, rolls-Rep, rolls-LineStart, rolls-LineEnd, rolls-WordEdge, rolls-NotWordEdge}

pub tree_of-Empty : tree_of Empty ≡ empty
tree_of-Empty = ap tree_of (sym rolls-Empty) ∙ fold-roll-Node Tree tree_step Node-F.Empty

pub tree_of-Set : (set : List Bool) → tree_of (Set set) ≡ one_of set
tree_of-Set set = ap tree_of (sym (rolls-Set set)) ∙ fold-roll-Node Tree tree_step (Node-F.Set set)

pub tree_of-Chars : (ranges : List (ℕ × ℕ)) → tree_of (Chars ranges) ≡ one_char ranges
tree_of-Chars ranges = ap tree_of (sym (rolls-Chars ranges)) ∙ fold-roll-Node Tree tree_step (Node-F.Chars ranges)

pub tree_of-Cat : (parts : Vec Node Global) → tree_of (Cat parts) ≡ cat (trees_of parts.items)
tree_of-Cat parts = ap tree_of (sym (rolls-Cat parts)) ∙ fold-roll-Node Tree tree_step (Node-F.Cat parts)

pub tree_of-Alt : (parts : Vec Node Global) → tree_of (Alt parts) ≡ alt (trees_of parts.items)
tree_of-Alt parts = ap tree_of (sym (rolls-Alt parts)) ∙ fold-roll-Node Tree tree_step (Node-F.Alt parts)

pub tree_of-Rep : (x : Box Node Global) (n : ℕ) (m : Option ℕ) → tree_of (Rep x n m) ≡ rep (tree_of x.value) n m
tree_of-Rep x n m = ap tree_of (sym (rolls-Rep x n m)) ∙ fold-roll-Node Tree tree_step (Node-F.Rep x n m)

pub tree_of-LineStart : tree_of LineStart ≡ line_start
tree_of-LineStart = ap tree_of (sym rolls-LineStart) ∙ fold-roll-Node Tree tree_step Node-F.LineStart

pub tree_of-LineEnd : tree_of LineEnd ≡ line_end
tree_of-LineEnd = ap tree_of (sym rolls-LineEnd) ∙ fold-roll-Node Tree tree_step Node-F.LineEnd

pub tree_of-WordEdge : tree_of WordEdge ≡ word_edge
tree_of-WordEdge = ap tree_of (sym rolls-WordEdge) ∙ fold-roll-Node Tree tree_step Node-F.WordEdge

pub tree_of-NotWordEdge : tree_of NotWordEdge ≡ not_word_edge
tree_of-NotWordEdge = ap tree_of (sym rolls-NotWordEdge) ∙ fold-roll-Node Tree tree_step Node-F.NotWordEdge
