use Rattle.std.proofs.Common.{subst, sym}
use Rattle.cs_project.specs.Noted.{AreSeen}
use Rattle.cs_project.proofs.answer.update.Goals as goal
use Rattle.cs_project.proofs.answer.update.Goals.{then-request+in_ok-begin_update, else-request}

pub returns-clause-notes : goal.returns-clause-notes
returns-clause-notes g c tree is seen =
    let stamps = g.T.Look.stamps tree in
    let begun : AreSeen stamps (g.K.Knowledge.noted c.if-request.known) = elim c.if-request.branch [
      | then-request+in_ok-begin_update w ↦
          subst (λ known. AreSeen stamps (g.K.Knowledge.noted known)) (sym w.known-is) (w.begin_update.ensures.notes stamps seen)
      | else-request w ↦ subst (λ known. AreSeen stamps (g.K.Knowledge.noted known)) (sym w.known-is) seen
    ] in
    c.list.ensures.notes tree is begun
