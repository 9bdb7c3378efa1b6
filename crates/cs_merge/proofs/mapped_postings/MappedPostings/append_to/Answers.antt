use Rattle.std.proofs.Common.{◌≡◌, ◌++◌, ◌∷◌, ℕ, List, [], None, Some, refl, sym, ap, append_assoc, ◌∙◌}
use Rattle.cs_merge.proofs.Common.{append-nil, cons_option, Ids, new_ids_of}
use Rattle.cs_merge.proofs.IdMergeLemmas.{no_more}
use Rattle.cs_merge.proofs.mapped_postings.MappedPostings.append_to.Goals as goal

pub returns-in_default-clause-ok : goal.returns-in_default-clause-ok
returns-in_default-clause-ok c =
    let s = c.self.inside in
    let none = no_more s.first c.in_default.not-Some in
    sym (append-nil c.args.ids.now.items)
    ∙ ap (λ (more : List ℕ). c.args.ids.now.items ++ more)
    ((λ i. cons_option (sym none i) (new_ids_of s.runs.now (sym (c.self.invariant.end none).0 i)))
    ∙ ap (λ (r : Ids). r.ids) c.self.view_is)

pub returns-in_default-clause-fault : goal.returns-in_default-clause-fault
returns-in_default-clause-fault c =
    ap (λ (r : Ids). r.whole) (sym c.self.view_is) ∙ (c.self.invariant.end (no_more c.self.inside.first c.in_default.not-Some)).1

pub returns-clause-ok : goal.returns-clause-ok
returns-clause-ok c =
    let s = c.self.inside in
    c.in_ok-map_into.ensures.ok
    ∙ ap (λ new_ids. c.push.new.self.items ++ new_ids_of new_ids s.rest.ids) c.new_ids.ensures
    ∙ ap (λ (ids : List ℕ). ids ++ new_ids_of s.runs.now s.rest.ids) c.in_ok-push.ensures.items
    ∙ append_assoc c.args.ids.now.items (c.in-Some.first ∷ []) (new_ids_of s.runs.now s.rest.ids)
    ∙ ap (λ (more : List ℕ). c.args.ids.now.items ++ more)
    (ap (λ o. cons_option o (new_ids_of s.runs.now s.rest.ids)) (sym c.in-Some.is) ∙ ap (λ (r : Ids). r.ids) c.self.view_is)
