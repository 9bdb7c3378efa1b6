use Rattle.std.proofs.Common.{Some, None, sym, subst, List, ℕ, refl, Option}
use Rattle.cs_tree.proofs.GrowsLemmas.{Grows-same}
use Rattle.cs_index.proofs.common.ResultClauses.{any_err}
use Rattle.cs_search.specs.Plans.{AreSelected, RefusesPlan}
use Rattle.cs_search.specs.declared.status.Status.{Status}
use Rattle.cs_search.proofs.PrintedInputLemmas.{outputs_of}
use Rattle.cs_search.proofs.CsearchLemmas.{accepted_plan}
use Rattle.cs_search.proofs.SearchLemmas.{if_modelled, of_model, sound_if_read, refused_first, unopened_first, unopened_unready, unopened_as}
use Rattle.cs_search.proofs.stored.csearch_stored.Goals as goal

-- ---- an error of a pattern

pub returns-in-Err-clause-selective : goal.returns-in-Err-clause-selective
returns-in-Err-clause-selective g c =
    let failed = g.T.Tree.failed c.args.tree.now in
    let out = g.O.Sink.model c.args.out.now in
    let err = g.E.Sink.model c.args.err.now in
    if_modelled (g.S.Store.model c.args.store.now) _ (λ bytes is. refused_first c.args.call.job.now (Some bytes)
    (g.T.Tree.snapshot c.args.tree.now) failed failed (outputs_of out out err err) c.in-Err.fault
    (Grows-same out, Grows-same err) refl (c.in-Err.ensures.refused (Some bytes)))

pub returns-in-Err-clause-searches : goal.returns-in-Err-clause-searches
returns-in-Err-clause-searches g c = sound_if_read c.args.call.job.now (g.S.Store.model c.args.store.now) _ _ _ _ _
    (returns-in-Err-clause-selective g c)

pub returns-in-Err-clause-outputs : goal.returns-in-Err-clause-outputs
returns-in-Err-clause-outputs g c = (tt, rw (c.in-Err.ensures.refused None).2 (refl, refl))

pub returns-in-Err-clause-unopened : goal.returns-in-Err-clause-unopened
returns-in-Err-clause-unopened g c = unopened_first Status Status c.args.call.job.now c.args.opened c.in-Err.fault
    (λ index. let r = c.in-Err.ensures.refused index in (r.0, r.1))

-- a failed read
pub returns-in_err-names-clause-unread : goal.returns-in_err-names-clause-unread
returns-in_err-names-clause-unread g c = any_err c.from_residual.result
    (accepted_plan c.args.call.job.now c.in-Ok.plan c.in-Ok.ensures.plan, ((Grows-same _, Grows-same _), refl, refl), (refl, refl))

-- ---- a search of the selected names

pub returns-in-Ok-2-clause-selective : goal.returns-in-Ok-2-clause-selective
returns-in-Ok-2-clause-selective g c =
    let model : Option (List ℕ) = g.S.Store.model c.args.store.now in
    if_modelled model _ (λ bytes is. c.run-answer.ensures.searches (Some bytes)
    (subst (AreSelected c.in-Ok.plan (Some bytes)) (sym c.deref.ensures.value)
    (of_model model (λ bytes. AreSelected c.in-Ok.plan (Some bytes) c.in-Ok-2.names.items) bytes is
    (rw c.in-Ok-2.is at c.in_ok-names.ensures.answers))))

pub returns-in-Ok-2-clause-searches : goal.returns-in-Ok-2-clause-searches
returns-in-Ok-2-clause-searches g c = sound_if_read c.args.call.job.now (g.S.Store.model c.args.store.now) _ _ _ _ _
    (returns-in-Ok-2-clause-selective g c)

pub returns-in-Ok-2-clause-unopened : goal.returns-in-Ok-2-clause-unopened
returns-in-Ok-2-clause-unopened g c = unopened_unready _ Status c.args.call.job.now c.args.opened _ c.run-answer.result
    (rw c.in-Ok-2.is at c.in_ok-names.ensures.unopened)

-- ---- an index with an error

pub returns-clause-selective : goal.returns-clause-selective
returns-clause-selective g c =
    let model : Option (List ℕ) = g.S.Store.model c.args.store.now in
    let failed = g.T.Tree.failed c.args.tree.now in
    let out = g.O.Sink.model c.args.out.now in
    let err = g.E.Sink.model c.args.err.now in
    if_modelled model _ (λ bytes is. refused_first c.args.call.job.now (Some bytes) (g.T.Tree.snapshot c.args.tree.now)
    failed failed (outputs_of out out err err) c.in-Err-2.fault (Grows-same out, Grows-same err) refl
    (of_model model (λ bytes. RefusesPlan c.args.call.job.now (Some bytes) c.in-Err-2.fault) bytes is
    (rw c.in-Err-2.is at c.in_ok-names.ensures.answers)))

pub returns-clause-searches : goal.returns-clause-searches
returns-clause-searches g c = sound_if_read c.args.call.job.now (g.S.Store.model c.args.store.now) _ _ _ _ _
    (returns-clause-selective g c)

pub returns-clause-unopened : goal.returns-clause-unopened
returns-clause-unopened g c = unopened_as _ Status c.args.call.job.now c.args.opened c.in-Err-2.fault
    (rw c.in-Err-2.is at c.in_ok-names.ensures.unopened)
