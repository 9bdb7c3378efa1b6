use Rattle.std.proofs.Common.{◌≡◌, ◌<◌, ◌∙◌, length, sym, subst}
use Rattle.std.specs.Prelude.{All}
use Rattle.cs_index.specs.Candidates.{candidates_of, AreCandidates}
use Rattle.cs_search.proofs.SelectionLemmas.{candidates_below, selects}
use Rattle.cs_search.proofs.selection.selected_names.Goals as goal

pub returns-in-Ok-clause-answers : goal.returns-in-Ok-clause-answers
returns-in-Ok-clause-answers g c = λ bytes parts modelled stands.
    let plan = c.args.plan.now in
    let candidates = subst (AreCandidates plan.query parts) c.in-Ok.is (c.in_ok-ids.ensures.answers bytes modelled parts stands) in
    let ids : c.deref.result.now ≡ candidates_of parts plan.query = c.deref.ensures.value ∙ candidates.0 in
    selects plan parts _ c.deref.result.now c.kept_names.result c.as_ref.ensures.value ids candidates.1
    (c.kept_names.ensures.kept bytes parts (c.candidates.ensures.store.0 ∙ modelled) stands
    (subst (All (λ id. id < length parts.names)) (sym ids) (candidates_below parts plan.query)))

pub returns-in-Err-clause-answers : goal.returns-in-Err-clause-answers
returns-in-Err-clause-answers g c = λ bytes parts modelled stands. rw c.in-Err.is at c.in_ok-ids.ensures.answers bytes modelled parts stands
