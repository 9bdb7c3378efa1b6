use Rattle.std.proofs.Common.{◌∙◌, arith}
use Rattle.cs_match.proofs.ShapeLemmas.{position_count_run, repeats_run}
use Rattle.cs_match.proofs.TraversalLemmas.{run_accepts, run_entered}
use Rattle.cs_match.proofs.glushkov.enter_run.Goals as goal

pub prove-unreachable-requires : goal.prove-unreachable-requires
prove-unreachable-requires c = omega (arith, c.if-prove.true, c.len.ensures, c.requires.0, position_count_run c.args.n)

pub returns : goal.returns
returns c =
    let at = c.args.at.now in
    let p = c.args.cursor.now.position in
    let n = c.args.n in
    rw (position_count_run n) (
      c.get.ensures ∙ run_accepts n p c.args.enter at.positions.now at.here (omega arith),
      c.put.ensures ∙ run_entered n p c.args.enter at.positions.now c.args.entries.now at.here (omega arith)
          (omega (arith, c.requires.0, position_count_run n)) c.requires.1,
      omega arith,
      omega (arith, repeats_run n),
    )
