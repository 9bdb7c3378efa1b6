-- The trees of a list of nodes.
use Rattle.std.specs.Prelude.{List, map}
use Rattle.cs_syntax.specs.Matching.{Trees}
use Rattle.cs_syntax.specs.Node.{trees, tree_of}
use Rattle.cs_syntax.specs.declared.node.Node.{Node}

abbrev pub trees_of : List Node → Trees
trees_of ns = trees (map tree_of ns)
