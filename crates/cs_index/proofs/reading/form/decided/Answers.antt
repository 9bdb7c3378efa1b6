use Rattle.std.proofs.Common.{◌≡◌, ◌∙◌, ap, sym, length, subst, ◌<◌, List, ℕ, true}
use Rattle.cs_trigram.specs.Trigram.{has}
use Rattle.cs_index.specs.Form.{matched}
use Rattle.cs_index.proofs.candidates.FormValues.{members_none, members_zero}
use Rattle.cs_index.proofs.reading.form.decided.Goals as goal

pub returns-then-contains-clause-number : goal.returns-then-contains-clause-number
returns-then-contains-clause-number c = λ bits nodes.
    let number = c.constant-zero.ensures.number bits nodes in
    let there : has c.args.node.now.members.items c.constant-zero.result ≡ true =
    ap (λ (ms : List ℕ). has ms c.constant-zero.result) (sym c.deref.ensures.value) ∙ sym c.contains.ensures.value
    ∙ c.if-contains.true in
    number ∙ sym (members_zero c.args.node.now.is_and (matched bits nodes) c.args.node.now.members.items
    c.constant-zero.result there number)

pub returns-in-empty-clause-number : goal.returns-in-empty-clause-number
returns-in-empty-clause-number c = λ bits nodes.
    c.constant.ensures.number bits nodes
    ∙ sym (members_none c.args.node.now.is_and (matched bits nodes) c.args.node.now.members.items
    (subst (λ (ms : List ℕ). length ms < 1) c.as_slice.ensures.value c.in-empty.len_below))
