use Rattle.std.proofs.Common.{◌≡◌, ◌≤◌, ◌∙◌, ap, arith}
use Rattle.cs_syntax.specs.Matching.{rep}
use Rattle.cs_syntax.specs.Node.{tree_of}
use Rattle.cs_syntax.specs.Weight.{max_weight, weight, times}
use Rattle.cs_syntax.proofs.NodeLemmas.{tree_of-Rep}
use Rattle.cs_syntax.proofs.WeightLemmas.{weight_pos, heavy}
use Rattle.cs_syntax.proofs.node.+weigh.Goals as goal

pub weigh-returns-then-count-ge-MAX_WEIGHT : goal.weigh-returns-then-count-ge-MAX_WEIGHT
weigh-returns-then-count-ge-MAX_WEIGHT t c =
    let e : tree_of c.args.node.now ≡ rep (tree_of c.in-Rep.x.value) c.in-Rep.least c.in-Rep.most =
    ap tree_of c.in-Rep.is ∙ tree_of-Rep _ _ _ in
    let many : max_weight ≤ times c.in-Rep.least c.in-Rep.most = omega (arith, c.count_of-count.ensures.is) in
    rw e (heavy (times c.in-Rep.least c.in-Rep.most) (weight (tree_of c.in-Rep.x.value)) many (weight_pos (tree_of c.in-Rep.x.value)))
