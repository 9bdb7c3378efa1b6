use Rattle.std.proofs.Common.{◌≡◌, true, false, rules, refl, inl, subst}
use Rattle.cs_storage.specs.Storing.{Moves, Begins}
use Rattle.codesearch.specs.Program.{may_update, update_of}
use Rattle.codesearch.specs.declared.outcome.Outcome.TheVariants.{Refused}
use Rattle.codesearch.proofs.CallLemmas.{untouched, no_read_fails}
use Rattle.codesearch.proofs.ExecutionLemmas.{executes_opened, executes_unclaimed, filled_by, filled_opened, filled_leaves, claims, claimed_stores, claimed_held, failed_leaves, has_job}
use Rattle.codesearch.proofs.execution.execute_opened.Goals as goal

pub returns-then-not-may_update-clause-executes : goal.returns-then-not-may_update-clause-executes
returns-then-not-may_update-clause-executes g c =
    let call = c.args.call.now in
    let file = c.args.file.now in
    let folder = g.F.IndexFolder.model c.args.folder.now in
    let filled = filled_by g.F.IndexFolder.model c.args.folder.now c.new.result c.run.new.new c.new.ensures.same_folder
    c.run.ensures.keeps_new.1 in
    let never : may_update call.job ≡ false = search rules in
    executes_opened _ _ call file c.run.ensures.runs.0 folder _ _ _ c.run.result c.run.result c.run.ensures.runs.1
    c.run.ensures.runs.2 (inl refl) (filled_opened folder _ (c.run.ensures.unclaimed never) (search rules))

pub returns-in-Err-clause-executes : goal.returns-in-Err-clause-executes
returns-in-Err-clause-executes g c =
    let call = c.args.call.now in
    let file = c.args.file.now in
    let before = g.F.IndexFolder.model c.args.folder.now in
    let after = g.F.IndexFolder.model c.begin_update.new.folder in
    let may : may_update call.job ≡ true = search rules in
    let job = has_job call.job may in
    let begins = subst (λ result. Moves (Begins result) before after) c.in-Err.is c.begin_update.ensures.begins in
    executes_unclaimed _ _ call job.0 file c.in-Err.fault before after _ _ (Refused c.of_writing.result)
    (no_read_fails g.F.Index.Store.failed file.index) c.requires.call job.1 may begins c.of_writing.ensures refl (untouched _)

pub returns-clause-executes : goal.returns-clause-executes
returns-clause-executes g c =
    let call = c.args.call.now in
    let file = c.args.file.now in
    let before = g.F.IndexFolder.model c.args.folder.now in
    let mid = g.F.IndexFolder.model c.begin_update.new.folder in
    let after = g.F.IndexFolder.model c.updated.new.folder in
    let begins = claims before mid c.in_default.is c.begin_update.ensures.begins in
    let filled = filled_by g.F.IndexFolder.model c.begin_update.new.folder c.new-2.result c.run-outcome.new.new
    c.new-2.ensures.same_folder c.run-outcome.ensures.keeps_new.1 in
    executes_opened _ _ call file c.run-outcome.ensures.runs.0 before after _ _ c.run-outcome.result c.updated.result
    c.run-outcome.ensures.runs.1 c.run-outcome.ensures.runs.2 c.updated.ensures.ends
    (claimed_stores (update_of c.updated.result) before mid _ after begins (search rules) c.updated.ensures.stores)

pub returns-then-not-may_update-clause-kept : goal.returns-then-not-may_update-clause-kept
returns-then-not-may_update-clause-kept g c =
    let filled = filled_by g.F.IndexFolder.model c.args.folder.now c.new.result c.run.new.new c.new.ensures.same_folder
    c.run.ensures.keeps_new.1 in
    λ failed. filled_leaves _ _ (search rules)

pub updated-requires-clause-held : goal.updated-requires-clause-held
updated-requires-clause-held g c =
    let before = g.F.IndexFolder.model c.args.folder.now in
    let mid = g.F.IndexFolder.model c.begin_update.new.folder in
    let begins = claims before mid c.in_default.is c.begin_update.ensures.begins in
    let filled = filled_by g.F.IndexFolder.model c.begin_update.new.folder c.new-2.result c.run-outcome.new.new
    c.new-2.ensures.same_folder c.run-outcome.ensures.keeps_new.1 in
    claimed_held before mid _ begins (search rules)

pub returns-clause-kept : goal.returns-clause-kept
returns-clause-kept g c = λ failed.
    let before = g.F.IndexFolder.model c.args.folder.now in
    let mid = g.F.IndexFolder.model c.begin_update.new.folder in
    let after = g.F.IndexFolder.model c.updated.new.folder in
    let begins = claims before mid c.in_default.is c.begin_update.ensures.begins in
    let filled = filled_by g.F.IndexFolder.model c.begin_update.new.folder c.new-2.result c.run-outcome.new.new
    c.new-2.ensures.same_folder c.run-outcome.ensures.keeps_new.1 in
    failed_leaves c.updated.result before after failed
    (claimed_stores (update_of c.updated.result) before mid _ after begins (search rules) c.updated.ensures.stores)
