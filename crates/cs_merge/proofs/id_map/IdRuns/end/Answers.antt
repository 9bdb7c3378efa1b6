use Rattle.std.proofs.Common.{◌≡◌, List, ℕ, Some, length, sym, ap, subst, ◌∙◌, slice_get}
use Rattle.cs_merge.proofs.Common.{ltb-true, slice_get-get_or, NewIds, IsRun}
use Rattle.cs_merge.proofs.id_map.IdRuns.end.Goals as goal

pub returns-in-Some : goal.returns-in-Some
returns-in-Some c =
    let ends : List ℕ = c.deref.result.now in
    let there : slice_get ends c.args.id ≡ Some c.in-Some.end.now =
    slice_get-get_or ends c.args.id c.in-Some.end.now (ltb-true c.args.id (length ends) (sym c.in-Some.ensures.lookup.0))
    ∙ ap Some (sym c.in-Some.ensures.lookup.1) in
    let together : IsRun c.self.inside.new_ids.now c.args.id c.in-Some.end.now =
    c.self.invariant.ends_are c.args.id c.in-Some.end.now
    (ap (λ (es : List ℕ). slice_get es c.args.id) (sym c.deref.ensures.value) ∙ there) in
    subst (λ (ids : NewIds). IsRun ids c.args.id c.in-Some.end.now) c.self.view_is together
