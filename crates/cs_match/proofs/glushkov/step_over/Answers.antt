use Rattle.std.proofs.Common.{◌∙◌, sym, arith}
use Rattle.cs_match.specs.Entered.{position_list, if_entered, if_previous, if_kept}
use Rattle.cs_match.proofs.EnteredLemmas.{is_step}
use Rattle.cs_match.proofs.MaskLemmas.{found, length-mask}
use Rattle.cs_match.proofs.glushkov.step_over.Goals as goal

pub move_over-requires-clause-mask : goal.move_over-requires-clause-mask
move_over-requires-clause-mask c =
    let t = c.args.program.now in
    let b = c.args.input in
    let is = found (position_list t) b c.find-slot.new.self.slots.items c.find-slot.result c.index.result.now c.index.ensures c.find-slot.ensures.mask in
    record {
      entered = length-mask t (if_entered b) _ is.entered ∙ sym c.requires.one_each;
      previous = length-mask t (if_previous b) _ is.previous ∙ sym c.requires.one_each;
      kept = length-mask t (if_kept b) _ is.kept ∙ sym c.requires.one_each;
    }

pub returns-clause-positions : goal.returns-clause-positions
returns-clause-positions c =
    let t = c.args.program.now in
    let b = c.args.input in
    let is = found (position_list t) b c.find-slot.new.self.slots.items c.find-slot.result c.index.result.now c.index.ensures c.find-slot.ensures.mask in
    is_step t c.args.at.begins c.args.positions.now c.args.at.here b c.enter-accepting.new.scratch.entries
    c.move_over.new.self _ _ _ c.requires.one_each c.enter-accepting.ensures.entries
    is.entered is.previous is.kept
    c.move_over.ensures.length c.move_over.ensures.each

pub returns-clause-cost : goal.returns-clause-cost
returns-clause-cost c = (
  omega (arith, c.enter-accepting.ensures.cost.0, c.find-slot.ensures.cost.0, c.move_over.ensures.cost),
  omega (
    arith,
    c.enter-accepting.ensures.cost.1,
    c.find-slot.ensures.cost.1,
    c.move_over.ensures.cost,
    c.requires.one_each,
  ),
)
