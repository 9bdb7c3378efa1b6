use Rattle.std.proofs.Common.{take}
use Rattle.cs_index.specs.Form.{Gathers, queries_match}
use Rattle.cs_index.proofs.reading.form.+fold.Given as goal

abbrev pub invariant-gather_each-loop-query : goal.invariant-gather_each-loop-query
invariant-gather_each-loop-query l = Gathers l.trigrams l.fn.folding.nodes.items l.folding.nodes.items l.fn.node l.node
    (λ set. queries_match l.fn.node.is_and set (take l.query-index l.queries))
