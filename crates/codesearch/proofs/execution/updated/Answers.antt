use Rattle.std.proofs.Common.{inr, subst}
use Rattle.cs_storage.specs.Storing.{Moves, Updates}
use Rattle.codesearch.specs.Program.{update_of}
use Rattle.codesearch.proofs.ExecutionLemmas.{finish_refused}
use Rattle.codesearch.proofs.execution.updated.Goals as goal

pub returns-in-Err-clause-ends : goal.returns-in-Err-clause-ends
returns-in-Err-clause-ends g c =
    let old = g.F.IndexFolder.model c.args.folder.now in
    let new = g.F.IndexFolder.model c.finish.new.folder in
    let updates = subst (λ result. Moves (Updates (update_of c.args.outcome) result) old new) c.in-Err.is c.finish.ensures.updates in
    inr (c.in-Err.fault, finish_refused _ _ old new updates, c.in-Err.ensures.tried, c.of_writing.ensures)
