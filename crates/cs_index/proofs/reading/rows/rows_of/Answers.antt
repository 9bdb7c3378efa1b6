use Rattle.std.proofs.Common.{◌≡◌, ◌+◌, ◌-◌, ◌∙◌, ◌∷◌, ◌++◌, [], ap, sym, subst, ℕ, Bool, List, Vec, Global, true, false, take, get_or, arith}
use Rattle.std.proofs.lemmas.List.{take_all, take_more}
use Rattle.cs_index.specs.declared.reading.form.FormNode.{FormNode}
use Rattle.cs_index.specs.Form.{matched, node_matches}
use Rattle.cs_index.specs.Rows.{column, have_id, HaveWidth}
use Rattle.cs_index.proofs.candidates.FormValues.{matched-append}
use Rattle.cs_index.proofs.candidates.WindowRows.{column-push, width-push}
use Rattle.cs_index.proofs.reading.rows.rows_of.Goals as goal

pub loop-node-preserved : goal.loop-node-preserved
loop-node-preserved g c =
    let nodes : List FormNode = c.args.nodes.now in
    let at : ℕ = c.loop-node.node-index in
    let node : FormNode = c.node-item.result in
    let rows : List (Vec Bool Global) = c.loop-node.rows.items in
    let row : Vec Bool Global = c.in_ok-row.row in
    let width : ℕ = c.args.window.end - c.args.window.start in
    let items = c.in_ok-push.ensures.items in
    let taken : take (at + 1) nodes ≡ take at nodes ++ node ∷ [] = take_more nodes at node c.loop-node-test.true
    ∙ ap (λ (n : FormNode). take at nodes ++ n ∷ []) (sym c.node-item.is) in
    record {
      width = subst (HaveWidth width) (sym items) (width-push width rows row c.loop-node.invariant.width c.in_ok-row.ensures.width);
      rows = λ bytes m all k h.
          let bits : List Bool = have_id bytes c.args.lists.now (c.args.window.start + k) in
          let so_far = c.loop-node.invariant.rows bytes m all k h in
          let flag : get_or row.items k false ≡ node_matches (matched bits (take at nodes)) node =
          c.in_ok-row.ensures.row k (omega (arith, h)) ∙ ap (λ (known : List Bool). node_matches known node)
          (ap (column k) c.deref.ensures.value ∙ so_far) in
          ap (column k) items ∙ column-push k rows row ∙ (λ i. so_far i ++ flag i ∷ [])
          ∙ sym (ap (matched bits) taken ∙ matched-append (false ∷ true ∷ bits) (take at nodes) node);
    }

pub returns-clause-rows : goal.returns-clause-rows
returns-clause-rows g c bytes m all k h =
    c.loop-node.invariant.rows bytes m all k h
    ∙ ap (matched (have_id bytes c.args.lists.now (c.args.window.start + k)))
    (take_all c.loop-node.node-index c.args.nodes.now c.loop-node-test.false)
