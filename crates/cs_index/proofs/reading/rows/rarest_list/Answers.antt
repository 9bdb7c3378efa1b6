use Rattle.std.proofs.Common.{◌≡◌, ◌∷◌, [], List, true, length, subst}
use Rattle.cs_index.specs.declared.reading.form.FormNode.{FormNode}
use Rattle.cs_index.specs.Form.{matched, members_match, number_matches}
use Rattle.cs_index.proofs.candidates.FormValues.{one_member, required_member, some_map}
use Rattle.cs_index.proofs.reading.rows.rarest_list.Goals as goal

pub returns-in-Some : goal.returns-in-Some
returns-in-Some c =
    some_map c.rarest_of.result _ _ (λ at there. required_member (length c.args.lists.now) c.args.form.now.nodes.items
    c.args.form.now.root at c.in-Some.members.now
    (λ bits long. subst (λ (ns : List FormNode). number_matches bits ns c.args.form.now.root
    ≡ members_match true (matched bits ns) c.in-Some.members.now) c.deref.ensures.value
    (c.in-Some.ensures.matches bits long)) there) c.rarest_of.ensures

pub returns-in-None : goal.returns-in-None
returns-in-None c =
    some_map c.rarest_of-in-None.result _ _ (λ at there. required_member (length c.args.lists.now)
    c.args.form.now.nodes.items c.args.form.now.root at (c.args.form.now.root ∷ [])
    (λ bits long. one_member bits c.args.form.now.nodes.items c.args.form.now.root) there) c.rarest_of-in-None.ensures
