use Rattle.cs_index.proofs.stored.ListPieces.{skips_filled}
use Rattle.cs_index.proofs.reading.stored_list.StoredList.skip_to.Goals as goal
use Rattle.std.proofs.Common.{◌∙◌}

pub returns-clause-skips : goal.returns-clause-skips
returns-clause-skips g c bytes m holds =
    let skips = c.in_ok-skip_below.ensures.skips bytes m holds in
    let ready = c.in_ok-fill.ensures.ready bytes (c.skip_below.ensures.store.0 ∙ m) skips.0.0 in (
      skips_filled bytes c.args.start c.args.self.now c.skip_below.new.self c.fill.new.self c.fill.new.self.piece
          c.in_ok-fill.ensures.same ready skips.0,
      c.first_left.ensures bytes ready,
    )
