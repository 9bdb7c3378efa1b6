use Rattle.std.proofs.Common.{◌+◌, ◌≤◌, length, sym, subst, arith}
use Rattle.cs_match.specs.MatchingEnds.{newlines_between}
use Rattle.cs_match.proofs.MatchingEndLemmas.{newlines-rise}
use Rattle.cs_match.proofs.lanes.Lane.scan.Goals as goal

pub step-requires-clause-room : goal.step-requires-clause-room
step-requires-clause-room c =
    let i = c.loop-at.invariant in
    let block = c.args.block.now in
    subst (λ from. newlines_between block from (c.loop-at.at + 1) ≤ length c.loop-at.ends) (sym i.from)
    (omega (
      arith,
      newlines-rise block c.args.self.now.from (c.loop-at.at + 1) c.args.part.end
          (omega (arith, i.from, i.lane.low)) (omega (arith, c.loop-at-test.true, c.loop-at.auto.at-end, c.requires.order.0)),
      c.requires.room,
      c.loop-at.auto.ends,
    ))
