use Rattle.std.proofs.Common.{arith}
use Rattle.cs_index.proofs.writer.CodedStrings.{same_more}
use Rattle.cs_index.proofs.writing.strings.shared_len.Goals as goal

pub steps-preserved : goal.steps-preserved
steps-preserved c = record {
  same = same_more c.steps.len c.args.a.now c.args.b.now c.ne.result c.steps.invariant.same c.ne.ensures c.if-ne.false;
  within = omega (arith, c.steps-test.true, c.steps.invariant.within);
  bound = omega (arith, c.if-b-len-ge-STEP.true, c.steps.invariant.bound);
}
