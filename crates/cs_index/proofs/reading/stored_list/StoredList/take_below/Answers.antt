use Rattle.cs_index.specs.declared.reading.postings.Step.TheVariants.{Id, End}
use Rattle.cs_index.proofs.stored.ListPieces.{ends, stays, step_there, takes}
use Rattle.cs_index.proofs.reading.stored_list.StoredList.take_below.Goals as goal

pub returns-in-End-clause-gives : goal.returns-in-End-clause-gives
returns-in-End-clause-gives c bytes =
    let s = c.self.inside in
    ends bytes c.args.end c.in-End.is_whole s c.args.self.now c.self.view_is c.if-self.false
    (step_there s.decoder s.used s.window.piece.items c.deref.result.now (End c.in-End.is_whole) c.deref.ensures.value c.in-End.ensures)

pub returns-then-id-end-clause-gives : goal.returns-then-id-end-clause-gives
returns-then-id-end-clause-gives c bytes =
    let s = c.self.inside in
    stays bytes c.args.end c.in-Id.id c.in-Id.len s c.args.self.now c.self.view_is c.if-self.false
    (step_there s.decoder s.used s.window.piece.items c.deref.result.now (Id c.in-Id.id c.in-Id.len) c.deref.ensures.value
    c.in-Id.ensures) c.if-id-end.true

pub returns-else-id-end-clause-gives : goal.returns-else-id-end-clause-gives
returns-else-id-end-clause-gives c bytes =
    let s = c.self.inside in
    takes bytes c.args.end c.in-Id.id c.in-Id.len s c.args.self.now c.self.view_is c.if-self.false c.self.invariant
    (step_there s.decoder s.used s.window.piece.items c.deref.result.now (Id c.in-Id.id c.in-Id.len) c.deref.ensures.value
    c.in-Id.ensures) c.if-id-end.false
