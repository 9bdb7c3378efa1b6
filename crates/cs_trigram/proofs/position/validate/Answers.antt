use Rattle.std.proofs.Common.{◌+◌, ◌-◌, Ok, Err, drop, take_all, arith, length-take, length-drop}
use Rattle.std.proofs.lemmas.Result.{err_from_is_err_and}
use Rattle.cs_trigram.proofs.PositionLemmas.{Validates-chunk, first_broken-on_the_way}
use Rattle.cs_trigram.proofs.position.validate.Goals as goal

pub returns-in_err-position-clause-rule : goal.returns-in_err-position-clause-rule
returns-in_err-position-clause-rule c = λ prefix is_after.
    let validated = c.chunks.invariant.rule prefix is_after in
    let end = c.chunks.offset + c.min.result in
    let p = err_from_is_err_and c.from_residual.result c.from_residual.ensures.1 in
    rw (p.1, p.2)
    (first_broken-on_the_way c.args.limits.now prefix c.args.bytes.now end c.in_err-position.field-0.0
    (Validates-chunk c.args.limits.now prefix c.args.bytes.now c.chunks.offset end (Err c.in_err-position.field-0.0)
    (omega arith) validated.0 (c.in_err-position.ensures.rule _ validated.1)))

pub chunks-preserved : goal.chunks-preserved
chunks-preserved c =
    let end = c.chunks.offset + c.min.result in
    let chunk = c.in_ok-position.ensures.count in
    record {
      inside = omega (arith, c.min.ensures, c.chunks-test.true);
      rule = λ prefix is_after.
          let validated = c.chunks.invariant.rule prefix is_after in
          Validates-chunk c.args.limits.now prefix c.args.bytes.now c.chunks.offset end (Ok c.in_ok-position.position)
          (omega arith) validated.0 (c.in_ok-position.ensures.rule _ validated.1);
      counted = omega (
        arith,
        chunk.0,
        length-take (end - c.chunks.offset) (drop c.chunks.offset c.args.bytes.now),
        length-drop c.chunks.offset c.args.bytes.now,
        c.min.ensures,
        c.chunks-test.true,
      );
      within = chunk.1;
      column = c.in_ok-position.ensures.column;
    }

pub returns-clause-rule : goal.returns-clause-rule
returns-clause-rule c = λ prefix is_after.
    let validated = c.chunks.invariant.rule prefix is_after in
    let all = take_all c.chunks.offset c.args.bytes.now (omega arith) in
    rw all at validated
