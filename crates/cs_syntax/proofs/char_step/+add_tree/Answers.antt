use Rattle.cs_syntax.proofs.CutLemmas.{tree_added}
use Rattle.cs_syntax.proofs.char_step.+add_tree.Goals as goal

pub loop-part-preserved : goal.loop-part-preserved
loop-part-preserved t c =
    tree_added _ _ _ _ c.part-item.result c.loop-part.part-index c.loop-part-test.true c.part-item.is
    c.loop-part.invariant c.in_ok-add_tree-in-Cat.ensures
