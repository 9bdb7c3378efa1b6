use Rattle.std.proofs.Common.{◌≡◌, ◌+◌, ◌-◌, ◌∙◌, take, drop, length, ap}
use Rattle.cs_syntax.specs.Matching.{one_of, more}
use Rattle.cs_syntax.specs.Node.{tree_of}
use Rattle.cs_syntax.specs.NodeList.{trees_of}
use Rattle.cs_syntax.proofs.NodeLemmas.{tree_of-Set}
use Rattle.cs_syntax.proofs.TreeLemmas.{trees_from}
use Rattle.cs_match.specs.Expansion.{union_with}
use Rattle.cs_match.proofs.expand.union_of.Goals as goal

pub loop-node-preserved : goal.loop-node-preserved
loop-node-preserved c =
    let others = take (length c.args.nodes.now - 1) (drop 1 c.args.nodes.now) in
    let ts = trees_of (drop (c.loop-node.node-index + 1) others) in
    let set = c.in-Set-node.set in
    let next : trees_of (drop c.loop-node.node-index others) ≡ more (one_of set) ts =
    trees_from others c.loop-node.node-index c.node-item.result c.loop-node-test.true c.node-item.is
    ∙ ap (λ t. more t ts) (ap tree_of c.in-Set-node.is ∙ tree_of-Set set) in
    ap (λ u. union_with u ts) c.union-union.ensures ∙ (rw next at c.loop-node.invariant)
