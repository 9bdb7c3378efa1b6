use Rattle.std.proofs.Common.{rules, ◌≡◌, ◌+◌, ◌∙◌, ap, sym, subst, List, ◌++◌, ◌∷◌, [], length}
use Rattle.std.proofs.lemmas.List.Filters.{dedup_is}
use Rattle.cs_index.specs.declared.reading.form.FormNode.{FormNode}
use Rattle.cs_index.specs.Form.{matched, number_matches, node_matches, numbers, Exist, Grows}
use Rattle.cs_index.proofs.candidates.QueryTrigrams.{has_ordered}
use Rattle.cs_index.proofs.candidates.FormValues.{members_same, exist_same, grows_push, pushed_matches}
use Rattle.cs_index.proofs.reading.form.intern.Goals as goal

pub returns-in-Some-clause-exists : goal.returns-in-Some-clause-exists
returns-in-Some-clause-exists c =
    let nodes : List FormNode = c.args.folding.now.nodes.items in
    c.in-Some.ensures.exists c.args.lists nodes
    (exist_same (numbers c.args.lists nodes) c.args.node.members.items c.dedup.new.self.items
    (λ g. sym (has_ordered _ _ _ g c.sort_unstable.ensures.permutation (dedup_is _ _ _ c.dedup.ensures.filtered)))
    c.requires.exist)

pub returns-in-Some-clause-number : goal.returns-in-Some-clause-number
returns-in-Some-clause-number c = λ bits len.
    let nodes : List FormNode = c.args.folding.now.nodes.items in
    c.in-Some.ensures.number bits nodes ∙ members_same c.args.node.is_and (matched bits nodes) c.dedup.new.self.items
    c.args.node.members.items (λ g. has_ordered _ _ _ g c.sort_unstable.ensures.permutation
    (dedup_is _ _ _ c.dedup.ensures.filtered))

pub returns-in-Some-known-clause-number : goal.returns-in-Some-known-clause-number
returns-in-Some-known-clause-number c = λ bits len.
    let nodes : List FormNode = c.args.folding.now.nodes.items in
    c.requires.form.matches bits len c.in-Some-known.at c.in-Some-known.ensures.0 c.args.node
    ∙ c.in-Some-known.ensures.1 c.args.node (matched bits nodes)
    ∙ members_same c.args.node.is_and (matched bits nodes) c.dedup.new.self.items c.args.node.members.items
    (λ g. has_ordered _ _ _ g c.sort_unstable.ensures.permutation (dedup_is _ _ _ c.dedup.ensures.filtered))

pub returns-clause-grows : goal.returns-clause-grows
returns-clause-grows c =
    let nodes : List FormNode = c.args.folding.now.nodes.items in
    let node : FormNode = record { is_and = c.args.node.is_and; members = c.dedup.new.self } in
    let there : Exist c.args.lists nodes node.members.items = exist_same (numbers c.args.lists nodes)
    c.args.node.members.items c.dedup.new.self.items
    (λ g. sym (has_ordered _ _ _ g c.sort_unstable.ensures.permutation (dedup_is _ _ _ c.dedup.ensures.filtered)))
    c.requires.exist in
    subst (Grows c.args.lists nodes) (sym c.in_ok-push.ensures.items) (grows_push c.args.lists nodes c.requires.form node there)

pub returns-clause-number : goal.returns-clause-number
returns-clause-number c = λ bits len.
    let nodes : List FormNode = c.args.folding.now.nodes.items in
    let node : FormNode = record { is_and = c.args.node.is_and; members = c.dedup.new.self } in
    let later : List FormNode = c.push.new.self.items in
    let there : Exist c.args.lists nodes node.members.items = exist_same (numbers c.args.lists nodes)
    c.args.node.members.items c.dedup.new.self.items
    (λ g. sym (has_ordered _ _ _ g c.sort_unstable.ensures.permutation (dedup_is _ _ _ c.dedup.ensures.filtered)))
    c.requires.exist in
    let items : later ≡ nodes ++ node ∷ [] = c.in_ok-push.ensures.items in
    let at : c.len-at.result ≡ length nodes = search rules in
    (λ i. number_matches bits (items i) (2 + c.args.lists + at i))
    ∙ pushed_matches c.args.lists nodes c.requires.form node there bits len
    ∙ ap (λ (ns : List FormNode). node_matches (matched bits ns) node) (sym items)
    ∙ members_same c.args.node.is_and (matched bits later) c.dedup.new.self.items c.args.node.members.items
    (λ g. has_ordered _ _ _ g c.sort_unstable.ensures.permutation (dedup_is _ _ _ c.dedup.ensures.filtered))
