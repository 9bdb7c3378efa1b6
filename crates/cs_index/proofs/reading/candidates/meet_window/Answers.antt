use Rattle.std.proofs.Common.{◌≡◌, ◌+◌, ◌-◌, ◌∙◌, ◌++◌, ap, subst, sym, ℕ, Bool, List, Vec, Global, false, get_or, arith}
use Rattle.cs_index.specs.declared.reading.form.FormNode.{FormNode}
use Rattle.cs_index.specs.Form.{matched, number_matches}
use Rattle.cs_index.specs.Rows.{column, have_id, HaveWidth}
use Rattle.cs_index.proofs.candidates.WindowRows.{filter_alike}
use Rattle.cs_index.proofs.reading.candidates.meet_window.Goals as goal

pub push_ids-requires-clause-width : goal.push_ids-requires-clause-width
push_ids-requires-clause-width g c =
    let width : ℕ = c.args.window.end - c.args.window.start in
    c.row_at.ensures.width width (subst (HaveWidth width) (sym c.deref-2.ensures.value) c.in_ok-rows.ensures.width)

pub returns-clause-ids : goal.returns-clause-ids
returns-clause-ids g c bytes m all =
    let nodes : List FormNode = c.args.form.now.nodes.items in
    let root : ℕ = c.args.form.now.root in
    let start : ℕ = c.args.window.start in
    let end : ℕ = c.args.window.end in
    c.in_ok-push_ids.ensures
    ∙ ap (λ ids. c.args.ids.now.items ++ ids)
    (filter_alike (λ id. get_or c.row_at.result.now (id - start) false)
    (λ id. number_matches (have_id bytes c.args.lists.now id) nodes root) start (end - start) (λ k below.
    let at : start + k - start ≡ k = omega arith in
    ap (λ n. get_or c.row_at.result.now n false) at ∙ c.row_at.ensures.row k
    ∙ ap (λ (rows : List (Vec Bool Global)). get_or (column k rows) root false) c.deref-2.ensures.value
    ∙ ap (λ (known : List Bool). get_or known root false)
    (c.in_ok-rows.ensures.rows bytes m all k (omega (arith, below))
    ∙ ap (matched (have_id bytes c.args.lists.now (start + k))) c.deref.ensures.value)))
