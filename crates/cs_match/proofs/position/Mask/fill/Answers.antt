use Rattle.std.proofs.Common.{◌≤◌, length, arith}
use Rattle.cs_match.specs.Entered.{if_entered, if_previous, if_kept}
use Rattle.cs_match.proofs.MaskLemmas.{all_put}
use Rattle.cs_match.proofs.position.Mask.fill.Goals as goal

pub returns-clause-mask : goal.returns-clause-mask
returns-clause-mask c =
    let ps = c.args.positions.now in
    let i = c.loop-index.invariant in
    let all : length ps ≤ c.loop-index.index = omega arith in
    record {
      entered = all_put (if_entered c.args.input) ps c.loop-index.self.entered c.loop-index.index i.entered_room all i.entered;
      previous = all_put (if_previous c.args.input) ps c.loop-index.self.previous c.loop-index.index
          i.previous_room all i.previous;
      kept = all_put (if_kept c.args.input) ps c.loop-index.self.kept c.loop-index.index i.kept_room all i.kept;
    }
