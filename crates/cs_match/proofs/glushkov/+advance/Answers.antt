use Rattle.std.proofs.Common.{◌≡◌, ◌+◌, ◌≤◌, ◌∙◌, ◌++◌, ◌&&◌, ◌||◌, List, refl, sym, ap, take, drop, length, arith, rules, drop_of_length-le}
use Rattle.std.specs.Prelude.{None, nat_eq}
use Rattle.std.proofs.Math.Bool.{and-true}
use Rattle.cs_syntax.specs.Matching.{cat, alt, rep, none}
use Rattle.cs_match.specs.declared.parts.Fragment.{Fragment}
use Rattle.cs_match.specs.declared.parts.Fragment.TheViews.{the_lemmas}
use Rattle.cs_match.specs.Glushkov.{position_count, repeats, nullable, is_final, loop_ends}
use Rattle.cs_match.specs.Entered.{entered}
use Rattle.cs_match.specs.Parts.{run, runs, options, shape_of, shapes_of, size_of, sizes_of}
use Rattle.cs_match.proofs.PartLemmas.{shape_of-Run, shape_of-Alternation, shape_of-Options, shape_of-Cat, shape_of-Alt, shape_of-Rep, size_of-Run, size_of-Alternation, size_of-Options, size_of-Cat, size_of-Alt, size_of-Rep, size_of-LineStart, size_of-LineEnd, size_of-WordEdge, size_of-NotWordEdge, shape_of-LineStart, shape_of-LineEnd, shape_of-WordEdge, shape_of-NotWordEdge, shapes_from, sizes_from}
use Rattle.cs_match.proofs.TraversalLemmas.{accepted_all, accepted_each, noted_others, first_noted, entered_ahead, entered_shifted, all_entered, each_entered, no_run_entered, accepts_some_none, all_passed, accepts_loop, loop_flag}
use Rattle.cs_match.proofs.glushkov.+advance.Goals as goal

pub loop-part-preserved : goal.loop-part-preserved
loop-part-preserved t c =
    let more = shapes_from c.deref-part-items.result.now c.loop-part.part-index c.part-item.result c.loop-part-test.true c.part-item.is in
    let larger = sizes_from c.deref-part-items.result.now c.loop-part.part-index c.part-item.result c.loop-part-test.true c.part-item.is in
    let t = shape_of c.part-item.result in
    let ts = shapes_of (drop (c.loop-part.part-index + 1) c.deref-part-items.result.now) in
    let i = c.loop-part.invariant in
    let ms = c.args.at.now.positions.now in
    let first = c.args.entries.now in
    let old = c.loop-part.entries in
    let new = c.advance-accepting.new.entries in
    let moved = c.advance-accepting.ensures.enters.1 in
    let next = c.advance-accepting.ensures.enters.2 in
    let position = rw more at i.position in
    let repeat = rw more at i.repeat in
    let room : c.loop-part.cursor.position + position_count t ≤ length ms = omega arith in
    let noted = noted_others t ts ms c.args.at.now.here c.loop-part.cursor.position _ next c.args.at.now.loops.now
    c.loop-part.cursor.repeat _
    (rw more at i.noted) c.advance-accepting.ensures.enters.3 in
    record {
      cost = omega (arith, c.advance-accepting.ensures.cost, i.cost, larger);
      position = omega arith;
      repeat = omega arith;
      noted = noted;
      next = first_noted ts (drop c.advance-accepting.new.cursor.repeat c.args.at.now.loops.now)
          (drop c.advance-accepting.new.cursor.position ms) c.args.at.now.here noted;
      accepting = rw c.advance-accepting.ensures.enters.0
          (accepted_all t ts c.args.at.now.positions.now c.args.at.now.here c.loop-part.cursor.position _ next
          c.loop-part.accepting _ (rw more at i.accepting));
      shifted = entered_shifted t ts ms first old new c.args.at.now.here c.loop-part.cursor.position _
          c.loop-part.accepting next room i.shifted i.ahead moved;
      ahead = entered_ahead t ts ms first old new c.args.at.now.here c.loop-part.cursor.position _ c.loop-part.accepting
          next room i.shifted i.ahead moved;
      entries = rw c.advance-accepting.ensures.enters.0
          (all_entered t ts ms first old new c.args.at.now.here c.loop-part.cursor.position _ c.loop-part.accepting next
          room i.shifted i.ahead moved _ (rw more at i.entries));
    }

pub loop-part-init : goal.loop-part-init
loop-part-init t c =
    let parts = c.deref-part-items.result.now in
    let e : shape_of c.args.part.now ≡ cat (shapes_of parts) =
    ap shape_of c.in-Cat.is ∙ shape_of-Cat _ ∙ ap (λ (ns : List Fragment). cat (shapes_of ns)) (sym c.deref-part-items.ensures.value) in
    let size : size_of c.args.part.now ≡ 1 + sizes_of parts =
    ap size_of c.in-Cat.is ∙ size_of-Cat _ ∙ ap (λ (ns : List Fragment). 1 + sizes_of ns) (sym c.deref-part-items.ensures.value) in
    let noted = rw e at c.requires.noted in
    record {
      cost = omega (arith, size, c.add.ensures);
      position = rw e refl;
      repeat = rw e refl;
      noted = noted;
      next = first_noted (shapes_of parts) (drop c.args.cursor.now.repeat c.args.at.now.loops.now)
          (drop c.args.cursor.now.position c.args.at.now.positions.now) c.args.at.now.here noted;
      accepting = rw e refl;
      shifted = c.requires.room.1;
      ahead = refl;
      entries = rw e refl;
    }

pub loop-part-2-preserved : goal.loop-part-2-preserved
loop-part-2-preserved t c =
    let more = shapes_from c.deref-part-items-in-Alt.result.now c.loop-part-2.part-index c.part-item-in-loop-part-2.result c.loop-part-2-test.true c.part-item-in-loop-part-2.is in
    let larger = sizes_from c.deref-part-items-in-Alt.result.now c.loop-part-2.part-index c.part-item-in-loop-part-2.result c.loop-part-2-test.true c.part-item-in-loop-part-2.is in
    let t = shape_of c.part-item-in-loop-part-2.result in
    let ts = shapes_of (drop (c.loop-part-2.part-index + 1) c.deref-part-items-in-Alt.result.now) in
    let i = c.loop-part-2.invariant in
    let ms = c.args.at.now.positions.now in
    let first = c.args.entries.now in
    let old = c.loop-part-2.entries in
    let new = c.advance-accepting-in-loop-part-2.new.entries in
    let moved = c.advance-accepting-in-loop-part-2.ensures.enters.1 in
    let next = c.advance-accepting-in-loop-part-2.ensures.enters.2 in
    let position = rw more at i.position in
    let repeat = rw more at i.repeat in
    let room : c.loop-part-2.cursor.position + position_count t ≤ length ms = omega arith in
    let noted = noted_others t ts ms c.args.at.now.here c.loop-part-2.cursor.position _ next c.args.at.now.loops.now
    c.loop-part-2.cursor.repeat _
    (rw more at i.noted) c.advance-accepting-in-loop-part-2.ensures.enters.3 in
    record {
      cost = omega (arith, c.advance-accepting-in-loop-part-2.ensures.cost, i.cost, larger);
      position = omega arith;
      repeat = omega arith;
      noted = noted;
      next = first_noted ts (drop c.advance-accepting-in-loop-part-2.new.cursor.repeat c.args.at.now.loops.now)
          (drop c.advance-accepting-in-loop-part-2.new.cursor.position ms) c.args.at.now.here noted;
      accepting = rw c.advance-accepting-in-loop-part-2.ensures.enters.0
          (accepted_each t ts c.args.at.now.positions.now c.args.at.now.here c.loop-part-2.cursor.position _ next
          c.args.enter c.loop-part-2.accepting _ (rw more at i.accepting));
      shifted = entered_shifted t ts ms first old new c.args.at.now.here c.loop-part-2.cursor.position _ c.args.enter next
          room i.shifted i.ahead moved;
      ahead = entered_ahead t ts ms first old new c.args.at.now.here c.loop-part-2.cursor.position _ c.args.enter next
          room i.shifted i.ahead moved;
      entries = each_entered t ts ms first old new c.args.at.now.here c.loop-part-2.cursor.position _ c.args.enter next
          room i.shifted i.ahead moved _ (rw more at i.entries);
    }

pub loop-part-2-init : goal.loop-part-2-init
loop-part-2-init t c =
    let parts = c.deref-part-items-in-Alt.result.now in
    let e : shape_of c.args.part.now ≡ alt (shapes_of parts) =
    ap shape_of c.in-Alt.is ∙ shape_of-Alt _ ∙ ap (λ (ns : List Fragment). alt (shapes_of ns)) (sym c.deref-part-items-in-Alt.ensures.value) in
    let size : size_of c.args.part.now ≡ 1 + sizes_of parts =
    ap size_of c.in-Alt.is ∙ size_of-Alt _ ∙ ap (λ (ns : List Fragment). 1 + sizes_of ns) (sym c.deref-part-items-in-Alt.ensures.value) in
    let noted = rw e at c.requires.noted in
    record {
      cost = omega (arith, size, c.add.ensures);
      position = rw e refl;
      repeat = rw e refl;
      noted = noted;
      next = first_noted (shapes_of parts) (drop c.args.cursor.now.repeat c.args.at.now.loops.now)
          (drop c.args.cursor.now.position c.args.at.now.positions.now) c.args.at.now.here noted;
      accepting = rw e refl;
      shifted = c.requires.room.1;
      ahead = refl;
      entries = rw e refl;
    }

pub returns-in-LineStart-clause-enters : goal.returns-in-LineStart-clause-enters
returns-in-LineStart-clause-enters t c = rw (ap shape_of c.in-LineStart.is ∙ shape_of-LineStart)
    (refl, no_run_entered c.args.cursor.now.position c.args.entries.now, omega arith, omega arith)

pub returns-in-LineEnd-clause-enters : goal.returns-in-LineEnd-clause-enters
returns-in-LineEnd-clause-enters t c = rw (ap shape_of c.in-LineEnd.is ∙ shape_of-LineEnd)
    (refl, no_run_entered c.args.cursor.now.position c.args.entries.now, omega arith, omega arith)

pub returns-in-WordEdge-clause-enters : goal.returns-in-WordEdge-clause-enters
returns-in-WordEdge-clause-enters t c = rw (ap shape_of c.in-WordEdge.is ∙ shape_of-WordEdge)
    (refl, no_run_entered c.args.cursor.now.position c.args.entries.now, omega arith, omega arith)

pub returns-in-NotWordEdge-clause-enters : goal.returns-in-NotWordEdge-clause-enters
returns-in-NotWordEdge-clause-enters t c = rw (ap shape_of c.in-NotWordEdge.is ∙ shape_of-NotWordEdge)
    (refl, no_run_entered c.args.cursor.now.position c.args.entries.now, omega arith, omega arith)

pub enter_run-requires : goal.enter_run-requires
enter_run-requires t c =
    let e : shape_of c.args.part.now ≡ run c.in-Run.n = ap shape_of c.in-Run.is ∙ shape_of-Run c.in-Run.n in
    rw e at c.requires.room

pub returns-in-Run-clause-enters : goal.returns-in-Run-clause-enters
returns-in-Run-clause-enters t c =
    let e : shape_of c.args.part.now ≡ run c.in-Run.n = ap shape_of c.in-Run.is ∙ shape_of-Run c.in-Run.n in
    rw e c.enter_run.ensures

pub enter_sequences-requires : goal.enter_sequences-requires
enter_sequences-requires t c =
    let ns = c.in-Alternation.sequences in
    let e : shape_of c.args.part.now ≡ alt (runs ns) = ap shape_of c.in-Alternation.is ∙ shape_of-Alternation ns in
    rw e at c.requires.room

pub returns-in-Alternation-clause-enters : goal.returns-in-Alternation-clause-enters
returns-in-Alternation-clause-enters t c =
    let ns = c.in-Alternation.sequences in
    let e : shape_of c.args.part.now ≡ alt (runs ns) = ap shape_of c.in-Alternation.is ∙ shape_of-Alternation ns in
    rw e c.enter_sequences.ensures.enters

pub returns-in-Options-clause-enters : goal.returns-in-Options-clause-enters
returns-in-Options-clause-enters t c =
    let n = c.in-Options.n in
    let count = c.in-Options.count in
    let e : shape_of c.args.part.now ≡ options n count = ap shape_of c.in-Options.is ∙ shape_of-Options n count in
    rw e c.enter_options.ensures

pub returns-in-LineStart-clause-cost : goal.returns-in-LineStart-clause-cost
returns-in-LineStart-clause-cost t c = omega (arith, c.add.ensures, ap size_of c.in-LineStart.is ∙ size_of-LineStart)

pub returns-in-LineEnd-clause-cost : goal.returns-in-LineEnd-clause-cost
returns-in-LineEnd-clause-cost t c = omega (arith, c.add.ensures, ap size_of c.in-LineEnd.is ∙ size_of-LineEnd)

pub returns-in-WordEdge-clause-cost : goal.returns-in-WordEdge-clause-cost
returns-in-WordEdge-clause-cost t c = omega (arith, c.add.ensures, ap size_of c.in-WordEdge.is ∙ size_of-WordEdge)

pub returns-in-NotWordEdge-clause-cost : goal.returns-in-NotWordEdge-clause-cost
returns-in-NotWordEdge-clause-cost t c = omega (arith, c.add.ensures, ap size_of c.in-NotWordEdge.is ∙ size_of-NotWordEdge)

pub returns-in-Run-clause-cost : goal.returns-in-Run-clause-cost
returns-in-Run-clause-cost t c = omega (arith, c.add.ensures, ap size_of c.in-Run.is ∙ size_of-Run c.in-Run.n)

pub returns-in-Alternation-clause-cost : goal.returns-in-Alternation-clause-cost
returns-in-Alternation-clause-cost t c =
    omega (arith, c.add.ensures, c.enter_sequences.ensures.cost, ap size_of c.in-Alternation.is ∙ size_of-Alternation c.in-Alternation.sequences)

pub enter_options-requires : goal.enter_options-requires
enter_options-requires t c =
    let n = c.in-Options.n in
    let count = c.in-Options.count in
    let e : shape_of c.args.part.now ≡ options n count = ap shape_of c.in-Options.is ∙ shape_of-Options n count in
    rw e at c.requires.room

pub returns-in-Options-clause-cost : goal.returns-in-Options-clause-cost
returns-in-Options-clause-cost t c =
    omega (arith, c.add.ensures, c.add-in-Options.ensures, ap size_of c.in-Options.is ∙ size_of-Options c.in-Options.n c.in-Options.count)

pub returns-after-loop-part-clause-enters : goal.returns-after-loop-part-clause-enters
returns-after-loop-part-clause-enters t c =
    let i = c.loop-part.invariant in
    let none_left : shapes_of (drop c.loop-part.part-index c.deref-part-items.result.now) ≡ none =
    ap shapes_of (drop_of_length-le c.deref-part-items.result.now {i = c.loop-part.part-index} (omega arith)) in
    let position = rw none_left at i.position in
    let repeat = rw none_left at i.repeat in (
      sym (and-true c.loop-part.accepting) ∙ (rw none_left at i.accepting),
      all_passed c.loop-part.cursor.position c.loop-part.entries c.args.entries.now _ i.ahead (rw none_left at i.entries),
      omega arith,
      omega arith,
    )

pub returns-after-loop-part-clause-cost : goal.returns-after-loop-part-clause-cost
returns-after-loop-part-clause-cost t c =
    omega (arith, c.loop-part.invariant.cost, ap sizes_of (drop_of_length-le c.deref-part-items.result.now {i = c.loop-part.part-index} (omega arith)))

pub returns-after-loop-part-2-clause-enters : goal.returns-after-loop-part-2-clause-enters
returns-after-loop-part-2-clause-enters t c =
    let i = c.loop-part-2.invariant in
    let none_left : shapes_of (drop c.loop-part-2.part-index c.deref-part-items-in-Alt.result.now) ≡ none =
    ap shapes_of (drop_of_length-le c.deref-part-items-in-Alt.result.now {i = c.loop-part-2.part-index} (omega arith)) in
    let position = rw none_left at i.position in
    let repeat = rw none_left at i.repeat in (
      sym (accepts_some_none c.loop-part-2.accepting c.args.enter) ∙ (rw none_left at i.accepting),
      all_passed c.loop-part-2.cursor.position c.loop-part-2.entries c.args.entries.now _ i.ahead (rw none_left at i.entries),
      omega arith,
      omega arith,
    )

pub returns-after-loop-part-2-clause-cost : goal.returns-after-loop-part-2-clause-cost
returns-after-loop-part-2-clause-cost t c =
    omega (arith, c.loop-part-2.invariant.cost, ap sizes_of (drop_of_length-le c.deref-part-items-in-Alt.result.now {i = c.loop-part-2.part-index} (omega arith)))

pub returns-in-Rep-clause-enters : goal.returns-in-Rep-clause-enters
returns-in-Rep-clause-enters t c =
    let x = shape_of c.deref.result.now in
    let ms = drop c.args.cursor.now.position c.args.at.now.positions.now in
    let here = c.args.at.now.here in
    let enter = c.args.enter in
    let bare = nat_eq c.in-Rep.least 0 in
    let e : shape_of c.args.part.now ≡ rep x c.in-Rep.least None =
    ap shape_of c.in-Rep.is ∙ shape_of-Rep _ _ ∙ ap (λ n. rep (shape_of n) c.in-Rep.least None) (sym c.deref.ensures) in
    let is = c.advance-accepting-in-Rep.ensures.enters in
    let again = (loop_flag c.args.at.now.loops.now c.args.cursor.now.repeat (repeats x) (is_final x ms here) (loop_ends x ms here)
    (rw e at c.requires.noted)).0 in
    rw e (
      ap (λ b. b || (bare && enter)) (is.0 ∙ ap (λ f. is_final x ms here || ((enter || f) && nullable x here)) again)
          ∙ accepts_loop (is_final x ms here) enter (nullable x here) bare,
      is.1 ∙ ap (λ f. take c.args.cursor.now.position c.args.entries.now ++ (entered x (enter || f) ms here
          ++ drop (c.args.cursor.now.position + position_count x) c.args.entries.now)) again,
      is.2,
      omega (arith, is.3),
    )

pub returns-in-Rep-clause-cost : goal.returns-in-Rep-clause-cost
returns-in-Rep-clause-cost t c =
    omega (arith, c.add.ensures, c.advance-accepting-in-Rep.ensures.cost, ap size_of c.in-Rep.is ∙ size_of-Rep c.in-Rep.x c.in-Rep.least, ap size_of c.deref.ensures)

pub advance-accepting-requires-in-Rep : goal.advance-accepting-requires-in-Rep
advance-accepting-requires-in-Rep t c =
    let x = shape_of c.deref.result.now in
    let ms = drop c.args.cursor.now.position c.args.at.now.positions.now in
    let e : shape_of c.args.part.now ≡ rep x c.in-Rep.least None =
    ap shape_of c.in-Rep.is ∙ shape_of-Rep _ _ ∙ ap (λ n. rep (shape_of n) c.in-Rep.least None) (sym c.deref.ensures) in (
      search (rules, the_lemmas),
      (
        rw e at c.requires.room,
        (loop_flag c.args.at.now.loops.now c.args.cursor.now.repeat (repeats x) (is_final x ms c.args.at.now.here)
            (loop_ends x ms c.args.at.now.here) (rw e at c.requires.noted)).1,
      ),
    )
