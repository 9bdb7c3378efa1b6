use Rattle.std.proofs.Common.{◌≡◌, refl, subst}
use Rattle.std.specs.Prelude.{IfOk, IfSome}
use Rattle.cs_storage.specs.Storing.{Moves, Looks}
use Rattle.codesearch.specs.declared.outcome.Outcome.TheVariants.{Refused}
use Rattle.codesearch.proofs.CallLemmas.{untouched}
use Rattle.codesearch.proofs.ExecutionLemmas.{executes, executes_unread}
use Rattle.codesearch.proofs.execution.execute.Goals as goal

pub returns-in-Ok-clause-executes : goal.returns-in-Ok-clause-executes
returns-in-Ok-clause-executes g c =
    let looks = subst (λ looked. Moves (Looks g.F.Index.Store.model looked) (g.F.IndexFolder.model c.args.folder.now)
    (g.F.IndexFolder.model c.look.new.self)) c.in-Ok.is c.look.ensures.looks in
    let fresh = subst (λ looked. IfOk looked (λ opened. IfSome opened (λ index. g.F.Index.Store.failed index ≡ 0))) c.in-Ok.is
    c.look.ensures.fresh in
    executes g.F.Index.Store.model g.F.Index.Store.failed c.in-Ok.index c.execute_opened.new.file.index _ _ _ _ _ _ _ _ _
    c.requires.tool looks fresh c.execute_opened.ensures.executes

pub returns-in-Err-clause-executes : goal.returns-in-Err-clause-executes
returns-in-Err-clause-executes g c =
    let looks = subst (λ looked. Moves (Looks g.F.Index.Store.model looked) (g.F.IndexFolder.model c.args.folder.now)
    (g.F.IndexFolder.model c.look.new.self)) c.in-Err.is c.look.ensures.looks in
    executes_unread g.F.Index.Store.model c.in-Err.fault _ _ _ _ _ _ _ _ (Refused c.of_reading.result) c.requires.tool
    c.requires.call looks c.of_reading.ensures refl (untouched _)
