use Rattle.cs_index.specs.declared.reading.postings.Step.TheVariants.{Id, End}
use Rattle.cs_index.proofs.stored.ListPieces.{begins_end, begins_ended, begins_next, step_there}
use Rattle.cs_index.proofs.reading.stored_list.StoredList.first_left.Goals as goal

pub returns-then-self : goal.returns-then-self
returns-then-self c bytes =
    let s = c.self.inside in
    begins_ended bytes s c.args.self.now c.self.view_is s.decoder.name_count c.if-self.true

pub returns-in-Id : goal.returns-in-Id
returns-in-Id c bytes =
    let s = c.self.inside in
    begins_next bytes s c.args.self.now c.self.view_is c.in-Id.id c.in-Id.field-1 c.if-self.false
    (step_there s.decoder s.used s.window.piece.items c.deref.result.now (Id c.in-Id.id c.in-Id.field-1) c.deref.ensures.value
    c.in-Id.ensures)

pub returns-in-End : goal.returns-in-End
returns-in-End c bytes =
    let s = c.self.inside in
    begins_end bytes s c.args.self.now c.self.view_is s.decoder.name_count c.in-End.field-0 c.if-self.false
    (step_there s.decoder s.used s.window.piece.items c.deref.result.now (End c.in-End.field-0) c.deref.ensures.value
    c.in-End.ensures)
