use Rattle.std.proofs.Common.{◌≡◌, ◌+◌, drop, refl, sym, ◌∙◌, ap, arith}
use Rattle.std.specs.Prelude.{None}
use Rattle.std.proofs.Math.Bool.{and_assoc, or_assoc}
use Rattle.cs_syntax.specs.Matching.{alt, rep}
use Rattle.cs_match.specs.Parts.{run, runs, options, shape_of, shapes_of}
use Rattle.cs_match.proofs.PartLemmas.{shape_of-Run, shape_of-Alternation, shape_of-Options, shape_of-Rep, shapes_from, sizes_from}
use Rattle.cs_match.specs.Glushkov.{nullable, nullable_all, nullable_some, is_final, loop_ends}
use Rattle.cs_match.proofs.ShapeLemmas.{loop_ends_run}
use Rattle.cs_match.proofs.AlternationLemmas.{loop_ends_runs}
use Rattle.cs_match.proofs.TraversalLemmas.{loop_ends_options, rep_noted, accepted_all, accepted_some, noted_more}
use Rattle.cs_match.proofs.glushkov.+find_ends.Goals as goal

pub returns-in-Rep-clause-noted : goal.returns-in-Rep-clause-noted
returns-in-Rep-clause-noted t c =
    let x = shape_of c.deref.result.now in
    let e : shape_of c.args.part.now ≡ rep x c.in-Rep.least None =
    ap shape_of c.in-Rep.is ∙ shape_of-Rep _ _ ∙ ap (λ n. rep (shape_of n) c.in-Rep.least None) (sym c.deref.ensures) in
    let ms = drop c.args.cursor.now.position c.args.positions.now in
    rw (e, c.find_ends-ends.ensures.ends.0)
    (rep_noted c.args.loops.now c.find_ends-ends.new.loops c.args.cursor.now.repeat
    (is_final x ms c.args.here) (loop_ends x ms c.args.here) c.find_ends-ends.ensures.noted)

pub loop-part-preserved : goal.loop-part-preserved
loop-part-preserved t c =
    let more = shapes_from c.deref-part-items.result.now c.loop-part.part-index c.part-item.result c.loop-part-test.true c.part-item.is in
    let larger = sizes_from c.deref-part-items.result.now c.loop-part.part-index c.part-item.result c.loop-part-test.true c.part-item.is in
    let i = c.loop-part.invariant in
    let t = shape_of c.part-item.result in
    let ts = shapes_of (drop (c.loop-part.part-index + 1) c.deref-part-items.result.now) in
    let position = rw more at i.position in
    let repeat = rw more at i.repeat in
    let next = c.find_ends.ensures.ends.2 in
    record {
      cost = omega (arith, c.find_ends.ensures.cost, i.cost, larger);
      position = omega arith;
      repeat = omega arith;
      accepting = rw (c.then-all.ensures.accepting, c.find_ends.ensures.ends.0, c.find_ends.ensures.ends.1)
          (accepted_all t ts c.args.positions.now c.args.here c.loop-part.cursor.position _ next
          c.loop-part.all.accepting _ (rw more at i.accepting));
      nullable = rw (c.then-all.ensures.nullable, c.find_ends.ensures.ends.1)
          (and_assoc c.loop-part.all.nullable (nullable t c.args.here) (nullable_all ts c.args.here) ∙ rw more at i.nullable);
      noted = noted_more t ts c.args.positions.now c.args.here c.loop-part.cursor.position _ next c.loop-part.loops
          c.find_ends.new.loops _ c.loop-part.cursor.repeat _
          (rw more at i.noted) c.find_ends.ensures.ends.3 c.find_ends.ensures.noted;
    }

pub loop-part-2-preserved : goal.loop-part-2-preserved
loop-part-2-preserved t c =
    let more = shapes_from c.deref-part-items-in-Alt.result.now c.loop-part-2.part-index c.part-item-in-loop-part-2.result c.loop-part-2-test.true c.part-item-in-loop-part-2.is in
    let larger = sizes_from c.deref-part-items-in-Alt.result.now c.loop-part-2.part-index c.part-item-in-loop-part-2.result c.loop-part-2-test.true c.part-item-in-loop-part-2.is in
    let i = c.loop-part-2.invariant in
    let t = shape_of c.part-item-in-loop-part-2.result in
    let ts = shapes_of (drop (c.loop-part-2.part-index + 1) c.deref-part-items-in-Alt.result.now) in
    let position = rw more at i.position in
    let repeat = rw more at i.repeat in
    let next = c.find_ends-in-loop-part-2.ensures.ends.2 in
    record {
      cost = omega (arith, c.find_ends-in-loop-part-2.ensures.cost, i.cost, larger);
      position = omega arith;
      repeat = omega arith;
      accepting = rw (c.or-some.ensures.accepting, c.find_ends-in-loop-part-2.ensures.ends.0)
          (accepted_some t ts c.args.positions.now c.args.here c.loop-part-2.cursor.position _ next
          c.loop-part-2.some.accepting _ (rw more at i.accepting));
      nullable = rw (c.or-some.ensures.nullable, c.find_ends-in-loop-part-2.ensures.ends.1)
          (or_assoc c.loop-part-2.some.nullable (nullable t c.args.here) (nullable_some ts c.args.here) ∙ rw more at i.nullable);
      noted = noted_more t ts c.args.positions.now c.args.here c.loop-part-2.cursor.position _ next c.loop-part-2.loops
          c.find_ends-in-loop-part-2.new.loops _ c.loop-part-2.cursor.repeat _
          (rw more at i.noted) c.find_ends-in-loop-part-2.ensures.ends.3 c.find_ends-in-loop-part-2.ensures.noted;
    }

pub end_run-requires : goal.end_run-requires
end_run-requires t c =
    let e : shape_of c.args.part.now ≡ run c.in-Run.n = ap shape_of c.in-Run.is ∙ shape_of-Run c.in-Run.n in
    rw e at c.requires.room

pub returns-in-Run-clause-noted : goal.returns-in-Run-clause-noted
returns-in-Run-clause-noted t c =
    let e : shape_of c.args.part.now ≡ run c.in-Run.n = ap shape_of c.in-Run.is ∙ shape_of-Run c.in-Run.n in
    rw (e, loop_ends_run c.in-Run.n (drop c.args.cursor.now.position c.args.positions.now) c.args.here) refl

pub returns-in-Run-clause-ends : goal.returns-in-Run-clause-ends
returns-in-Run-clause-ends t c =
    let e : shape_of c.args.part.now ≡ run c.in-Run.n = ap shape_of c.in-Run.is ∙ shape_of-Run c.in-Run.n in
    rw e (c.end_run.ensures c.args.here)

pub returns-in-Alternation-clause-noted : goal.returns-in-Alternation-clause-noted
returns-in-Alternation-clause-noted t c =
    let ns = c.in-Alternation.sequences in
    let e : shape_of c.args.part.now ≡ alt (runs ns) = ap shape_of c.in-Alternation.is ∙ shape_of-Alternation ns in
    rw (e, loop_ends_runs ns (drop c.args.cursor.now.position c.args.positions.now) c.args.here) refl

pub returns-in-Alternation-clause-ends : goal.returns-in-Alternation-clause-ends
returns-in-Alternation-clause-ends t c =
    let ns = c.in-Alternation.sequences in
    let e : shape_of c.args.part.now ≡ alt (runs ns) = ap shape_of c.in-Alternation.is ∙ shape_of-Alternation ns in
    rw e (c.end_sequences.ensures.ends c.args.here)

pub returns-in-Options-clause-noted : goal.returns-in-Options-clause-noted
returns-in-Options-clause-noted t c =
    let n = c.in-Options.n in
    let count = c.in-Options.count in
    let e : shape_of c.args.part.now ≡ options n count = ap shape_of c.in-Options.is ∙ shape_of-Options n count in
    rw (e, loop_ends_options n count (drop c.args.cursor.now.position c.args.positions.now) c.args.here) refl

pub returns-in-Options-clause-ends : goal.returns-in-Options-clause-ends
returns-in-Options-clause-ends t c =
    let n = c.in-Options.n in
    let count = c.in-Options.count in
    let e : shape_of c.args.part.now ≡ options n count = ap shape_of c.in-Options.is ∙ shape_of-Options n count in
    rw e (c.end_options.ensures c.args.here)
