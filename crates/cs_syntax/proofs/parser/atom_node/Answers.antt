use Rattle.std.proofs.Common.{◌∙◌}
use Rattle.cs_syntax.proofs.CharRangeLemmas.{tree_of_canonical}
use Rattle.cs_syntax.proofs.parser.atom_node.Goals as goal

pub returns-in_ok-one_item-in-Class : goal.returns-in_ok-one_item-in-Class
returns-in_ok-one_item-in-Class c = rw c.in-Class.is
    (c.chars_node-in-Class.ensures ∙ tree_of_canonical _ _ c.in_ok-one_item-in-Class.ensures)

pub returns-in_ok-dot-in-Dot : goal.returns-in_ok-dot-in-Dot
returns-in_ok-dot-in-Dot c = rw c.in-Dot.is (c.chars_node-in-Dot.ensures ∙ tree_of_canonical _ _ c.in_ok-dot-in-Dot.ensures)
