use Rattle.std.proofs.Common.{◌+◌, drop, sym, ◌∙◌, ap, subst}
use Rattle.std.proofs.lemmas.Result.{on_ok_weaker}
use Rattle.cs_syntax.specs.Matching.{Trees, one_of, line_end, word_edge}
use Rattle.cs_syntax.specs.Node.{tree_of}
use Rattle.cs_syntax.specs.NodeList.{trees_of}
use Rattle.cs_syntax.proofs.NodeLemmas.{tree_of-Set, tree_of-LineEnd, tree_of-WordEdge}
use Rattle.cs_syntax.proofs.TreeLemmas.{trees_from}
use Rattle.cs_prefilter.specs.declared.runs.Runs.{Runs}
use Rattle.cs_prefilter.proofs.RunLemmas.{GoesOn, goes_on}
use Rattle.cs_prefilter.proofs.required.keep_followed.Goals as goal
use Rattle.cs_prefilter.proofs.required.keep_followed.Goals.{in-LineEnd+in_ok-add_line_end-in-LineEnd, in-WordEdge+in_ok-add_word_edge-in-WordEdge, in-Set+in_ok-add-in-Set}

pub nodes-preserved : goal.nodes-preserved
nodes-preserved c = λ line i j e h has.
    let before = c.nodes.runs in
    let tree = tree_of c.node-item.result in
    let rest = trees_of (drop (c.nodes.node-index + 1) c.args.after.now) in
    let next = trees_from c.args.after.now c.nodes.node-index c.node-item.result c.nodes-test.true c.node-item.is in
    let here : GoesOn line before _ j = subst (λ (ts : Trees). GoesOn line before ts j) next (c.nodes.invariant line i j e h has) in
    elim c.match-node.branch [
      | in-LineEnd+in_ok-add_line_end-in-LineEnd w ↦ subst (λ (runs : Runs). GoesOn line runs rest j) (sym w.runs-is)
          (goes_on tree line_end rest before w.add_line_end.new.self line j (ap tree_of w.in-LineEnd.is ∙ tree_of-LineEnd)
          w.in_ok-add_line_end-in-LineEnd.ensures here)
      | in-WordEdge+in_ok-add_word_edge-in-WordEdge w ↦ subst (λ (runs : Runs). GoesOn line runs rest j) (sym w.runs-is)
          (goes_on tree word_edge rest before w.add_word_edge.new.self line j (ap tree_of w.in-WordEdge.is ∙ tree_of-WordEdge)
          w.in_ok-add_word_edge-in-WordEdge.ensures here)
      | in-Set+in_ok-add-in-Set w ↦ subst (λ (runs : Runs). GoesOn line runs rest j) (sym w.runs-is)
          (goes_on tree (one_of w.in-Set.set) rest before w.add.new.self line j (ap tree_of w.in-Set.is ∙ tree_of-Set w.in-Set.set)
          w.in_ok-add-in-Set.ensures here)
    ]

pub returns : goal.returns
returns c = on_ok_weaker c.keep_run.result (λ best line i j e h has.
    let here = c.nodes.invariant line i j e h has in
    best line here.at here.run here.has) c.keep_run.ensures.best
