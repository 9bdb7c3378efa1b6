use Rattle.std.proofs.Common.{◌+◌, Ok, Err, take_all, arith}
use Rattle.std.proofs.lemmas.Result.{err_from_is_err_and}
use Rattle.cs_trigram.proofs.PositionLemmas.{Validates-more, first_broken-on_the_way}
use Rattle.cs_trigram.proofs.position.validate_bytes.Goals as goal

pub returns-in_err-position-clause-rule : goal.returns-in_err-position-clause-rule
returns-in_err-position-clause-rule c = λ prefix is_after.
    let validated = c.loop-byte.invariant.rule prefix is_after in
    let p = err_from_is_err_and c.from_residual.result c.from_residual.ensures.1 in
    rw (p.1, p.2)
    (first_broken-on_the_way c.args.limits.now prefix c.args.bytes.now (c.loop-byte.byte-index + 1) c.in_err-position.field-0.0
    (Validates-more c.args.limits.now prefix c.args.bytes.now c.loop-byte.byte-index (Err c.in_err-position.field-0.0)
    c.loop-byte-test.true validated.0 (c.in_err-position.ensures.rule _ validated.1)))

pub loop-byte-preserved : goal.loop-byte-preserved
loop-byte-preserved c = record {
  rule = λ prefix is_after.
      let validated = c.loop-byte.invariant.rule prefix is_after in
      Validates-more c.args.limits.now prefix c.args.bytes.now c.loop-byte.byte-index (Ok c.in_ok-position.position)
      c.loop-byte-test.true validated.0 (c.in_ok-position.ensures.rule _ validated.1);
  counted = omega (arith, c.in_ok-position.ensures.count);
  within = c.in_ok-position.ensures.count.1;
  column = c.in_ok-position.ensures.column;
}

pub returns-clause-rule : goal.returns-clause-rule
returns-clause-rule c = λ prefix is_after.
    let validated = c.loop-byte.invariant.rule prefix is_after in
    let all = take_all c.loop-byte.byte-index c.args.bytes.now (omega arith) in
    rw all at validated
