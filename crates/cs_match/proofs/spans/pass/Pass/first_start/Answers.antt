use Rattle.std.proofs.Common.{◌+◌, ◌-◌, length, arith}
use Rattle.cs_match.proofs.SpanLemmas.{match_from}
use Rattle.cs_match.proofs.SpanWorkLemmas.{halve, halved}
use Rattle.cs_match.proofs.spans.pass.Pass.first_start.Goals as goal

pub halves-preserved-in-Some : goal.halves-preserved-in-Some
halves-preserved-in-Some c =
    let whole = c.args.wanted.whole in
    let t = c.args.program.now in
    let s = c.args.line.now in
    let from = c.args.wanted.from in
    let least = c.args.wanted.least in
    let given = c.halves.invariant in
    let low = c.halves.low in
    let end = c.in-Some.field-0.end in
    let f = c.in-Some.ensures.ends in
    record {
      ready = c.first_end.ensures.ready;
      high = omega (arith, given.high, c.halves-test.true, c.div_ceil.ensures);
      after = given.after;
      begin = given.begin;
      some = (f.0, omega (arith, f.1), (end, match_from whole t s low least from f.0 end (omega (arith, given.after, f.2.begins)) f.2));
      read = λ k few. halve t (length s) k (c.halves.high - low) (low + c.div_ceil.result - 1 - low) _ _ _
          (omega (arith, c.halves-test.true)) (omega (arith, c.halves-test.true, c.div_ceil.ensures)) c.first_end.ensures.read
          (given.read k few);
    }

pub halves-preserved : goal.halves-preserved
halves-preserved c =
    let whole = c.args.wanted.whole in
    let t = c.args.program.now in
    let s = c.args.line.now in
    let from = c.args.wanted.from in
    let least = c.args.wanted.least in
    let given = c.halves.invariant in
    let low = c.halves.low in
    record {
      ready = c.first_end.ensures.ready;
      high = given.high;
      after = omega (arith, given.after);
      begin = λ i j m. c.in-None.ensures.none i j (match_from whole t s from least low i j (given.begin i j m) m);
      some = given.some;
      read = λ k few. halve t (length s) k (c.halves.high - low) (c.halves.high - (low + c.div_ceil.result)) _ _ _
          (omega (arith, c.halves-test.true)) (omega (arith, c.halves-test.true, c.div_ceil.ensures)) c.first_end.ensures.read
          (given.read k few);
    }

pub returns-clause-read : goal.returns-clause-read
returns-clause-read c = λ k few.
    halved c.args.program.now (length c.args.line.now) k (c.halves.high - c.halves.low) _ _ (c.halves.invariant.read k few)
