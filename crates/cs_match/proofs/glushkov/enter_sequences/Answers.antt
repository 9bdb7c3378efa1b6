use Rattle.std.proofs.Common.{◌∙◌, false, length, get_or, drop, sym, ap, arith}
use Rattle.std.specs.Prelude.{if◌then◌else◌}
use Rattle.cs_match.specs.PositionSet.{has_from, intersect}
use Rattle.cs_match.proofs.AlternationLemmas.{length-firsts, length-lasts, repeats_runs, accepts_runs, runs_entered}
use Rattle.cs_match.proofs.glushkov.enter_sequences.Goals as goal

pub prove-unreachable-requires : goal.prove-unreachable-requires
prove-unreachable-requires c = omega (
  arith,
  c.if-prove.true,
  c.len.ensures,
  c.requires.0,
  c.len-n.ensures,
  ap length c.lasts.ensures,
  length-lasts c.args.sequences.now,
)

pub put_all-requires : goal.put_all-requires
put_all-requires c =
    omega (arith, c.requires.0, c.requires.1.long, ap length c.firsts.ensures, length-firsts c.args.sequences.now)

pub meets-requires : goal.meets-requires
meets-requires c = omega (arith, c.requires.0, ap length c.lasts-2.ensures, length-lasts c.args.sequences.now)

pub returns-clause-enters : goal.returns-clause-enters
returns-clause-enters c =
    let ns = c.args.sequences.now in
    let p = c.args.cursor.now.position in
    let ms = c.args.at.now.positions.now in
    let here = c.args.at.now.here in
    let old = c.args.entries.now in (
      c.meets.ensures ∙ ap (intersect (drop p ms)) c.lasts-2.ensures ∙ sym (accepts_runs ns c.args.enter (drop p ms) here),
      runs_entered ns p c.args.enter ms old c.put_all.new.self here c.requires.0 c.requires.1 c.put_all.ensures.length
          (λ k h. c.put_all.ensures.each k h ∙ ap (λ xs. if has_from xs p k then c.args.enter else get_or old k false) c.firsts.ensures),
      omega (arith, c.len-n.ensures, ap length c.lasts.ensures, length-lasts ns),
      omega (arith, repeats_runs ns),
    )

pub returns-clause-cost : goal.returns-clause-cost
returns-clause-cost c = omega (
  arith,
  c.add.ensures,
  c.div_ceil.ensures,
  c.len-n.ensures,
  ap length c.lasts.ensures,
  length-lasts c.args.sequences.now,
)
