use Rattle.std.proofs.Common.{◌-◌, sym, subst, arith, drop}
use Rattle.cs_index.specs.Windows.{StandAt}
use Rattle.cs_index.proofs.stored.Windows.{stand_first}
use Rattle.cs_index.proofs.reading.window.Window.keep.Goals as goal

pub returns-clause-piece : goal.returns-clause-piece
returns-clause-piece c bytes has =
    let old = c.args.self.now in
    subst (StandAt bytes c.args.at) (sym c.move_down.ensures.items)
    (stand_first bytes (drop (c.args.at - old.start) old.piece.items) c.args.at c.min-kept.result (has (omega (arith, c.if-at-start.false))))
