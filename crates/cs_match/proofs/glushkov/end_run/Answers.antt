use Rattle.std.proofs.Common.{◌∙◌, arith}
use Rattle.cs_match.proofs.ShapeLemmas.{position_count_run, repeats_run}
use Rattle.cs_match.proofs.TraversalLemmas.{nullable_run, run_final}
use Rattle.cs_match.proofs.glushkov.end_run.Goals as goal

pub prove-unreachable-requires : goal.prove-unreachable-requires
prove-unreachable-requires c = omega (arith, c.if-prove.true, c.len.ensures, c.requires, position_count_run c.args.n)

pub returns : goal.returns
returns c = λ here. (
  c.get.ensures ∙ run_final c.args.n c.args.cursor.now.position c.args.positions.now here (omega arith),
  nullable_run c.args.n here (omega arith),
  omega (arith, position_count_run c.args.n),
  omega (arith, repeats_run c.args.n),
)
