use Rattle.cs_index.proofs.stored.ListPieces.{given_on}
use Rattle.cs_index.proofs.reading.stored_list.StoredList.next_below.Goals as goal

pub returns-clause-gives : goal.returns-clause-gives
returns-clause-gives g c bytes is holds =
    given_on bytes c.args.end c.args.self.now c.fill.new.self c.take_below.new.self c.fill.new.self.piece
    c.take_below.result c.fill.ensures.same
    (c.take_below.ensures.gives bytes (c.in_ok-fill.ensures.ready bytes is holds))
