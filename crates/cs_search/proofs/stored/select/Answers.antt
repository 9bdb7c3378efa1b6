use Rattle.std.proofs.Common.{Some, Option, List, ℕ, Ok, Err, inl, subst}
use Rattle.cs_index.specs.Stored.{StoredParts, DecodesOrFails}
use Rattle.cs_search.specs.Selections.{Selects}
use Rattle.cs_search.specs.StoredSearch.{IsOpened}
use Rattle.cs_search.proofs.CsearchLemmas.{accepted_plan, bad_index, list_unwritten, unopened_late}
use Rattle.cs_search.proofs.MainPromiseLemmas.{lists_refused}
use Rattle.cs_search.proofs.SearchLemmas.{if_modelled, of_model}
use Rattle.cs_search.proofs.stored.select.Goals as goal

-- ---- a bad index

pub returns-in-Err-clause-unopened : goal.returns-in-Err-clause-unopened
returns-in-Err-clause-unopened g c =
    let planned = c.args.planned.now in
    rw c.in-Err.is (rw c.from.ensures
    (unopened_late _ planned.job.now c.in-Err.fault (accepted_plan planned.job.now planned.plan.now c.requires.plan)))

pub returns-in-Err-clause-answers : goal.returns-in-Err-clause-answers
returns-in-Err-clause-answers g c =
    let model : Option (List ℕ) = g.S.Store.model c.args.store.now in
    let planned = c.args.planned.now in
    let accepted = accepted_plan planned.job.now planned.plan.now c.requires.plan in
    if_modelled model _ (λ bytes is. rw c.from.ensures (bad_index planned.job.now (Some bytes) bytes c.in-Err.fault accepted
    (of_model model (λ bytes. DecodesOrFails bytes (Err c.in-Err.fault)) bytes is
    (subst (IsOpened model) c.in-Err.is c.requires.opened))))

pub returns-in-Err-clause-unwritten : goal.returns-in-Err-clause-unwritten
returns-in-Err-clause-unwritten g c = rw c.from.ensures (list_unwritten c.in-Err.fault)

-- ---- a damaged list

pub returns-clause-answers : goal.returns-clause-answers
returns-clause-answers g c =
    let model : Option (List ℕ) = g.S.Store.model c.args.store.now in
    let job = c.args.planned.now.job.now in
    let plan = c.args.planned.now.plan.now in
    let index : StoredParts = c.in-Ok.index in
    if_modelled model _ (λ bytes is.
    let opened = of_model model (λ bytes. DecodesOrFails bytes (Ok index)) bytes is (subst (IsOpened model) c.in-Ok.is c.requires.opened) in
    let damaged = subst (Selects plan opened.0) c.in-Err-2.is (c.in_ok-names.ensures.answers bytes opened.0 is opened.1) in
    rw c.from-in-Err-2.ensures (lists_refused job (Some bytes) plan c.requires.plan opened.0 opened.1.decodes
    c.in-Err-2.fault (inl damaged)))

pub returns-clause-unwritten : goal.returns-clause-unwritten
returns-clause-unwritten g c = rw c.from-in-Err-2.ensures (list_unwritten c.in-Err-2.fault)

-- the selected names
pub returns-in-Ok-2-clause-answers : goal.returns-in-Ok-2-clause-answers
returns-in-Ok-2-clause-answers g c =
    let model : Option (List ℕ) = g.S.Store.model c.args.store.now in
    let plan = c.args.planned.now.plan.now in
    let index : StoredParts = c.in-Ok.index in
    if_modelled model _ (λ bytes is.
    let opened = of_model model (λ bytes. DecodesOrFails bytes (Ok index)) bytes is (subst (IsOpened model) c.in-Ok.is c.requires.opened) in
    let selected = subst (Selects plan opened.0) c.in-Ok-2.is (c.in_ok-names.ensures.answers bytes opened.0 is opened.1) in
    record { parts = opened.0; opens = opened.1.decodes; whole = selected.1; kept = selected.0 })
