use Rattle.std.proofs.Common.{◌∙◌, length, drop, sym, ap, arith}
use Rattle.cs_match.specs.PositionSet.{intersect}
use Rattle.cs_match.proofs.AlternationLemmas.{length-lasts, repeats_runs, nullable_runs, is_final_runs}
use Rattle.cs_match.proofs.glushkov.end_sequences.Goals as goal

pub prove-unreachable-requires : goal.prove-unreachable-requires
prove-unreachable-requires c = omega (
  arith,
  c.if-prove.true,
  c.len.ensures,
  c.requires,
  c.len-n.ensures,
  ap length c.lasts.ensures,
  length-lasts c.args.sequences.now,
)

pub meets-requires : goal.meets-requires
meets-requires c = omega (arith, c.requires, ap length c.lasts-2.ensures, length-lasts c.args.sequences.now)

pub returns-clause-ends : goal.returns-clause-ends
returns-clause-ends c = λ here.
    let ns = c.args.sequences.now in
    let ms = drop c.args.cursor.now.position c.args.positions.now in (
      c.meets.ensures ∙ ap (intersect ms) c.lasts-2.ensures ∙ sym (is_final_runs ns ms here),
      sym (nullable_runs ns here),
      omega (arith, c.len-n.ensures, ap length c.lasts.ensures, length-lasts ns),
      omega (arith, repeats_runs ns),
    )

pub returns-clause-cost : goal.returns-clause-cost
returns-clause-cost c = omega (
  arith,
  c.add.ensures,
  c.div_ceil.ensures,
  c.len-n.ensures,
  ap length c.lasts.ensures,
  length-lasts c.args.sequences.now,
)
