use Rattle.std.proofs.Common.{arith}
use Rattle.cs_index.proofs.postings.EncodedRuns.{one_at, two_at}
use Rattle.cs_index.proofs.encoded_run.short_delta.Goals as goal

pub returns-in-len1-up-clause-written : goal.returns-in-len1-up-clause-written
returns-in-len1-up-clause-written c = λ some. one_at c.args.bytes.now c.in-len1-up.len_at_least c.if-first-lt128.true

pub returns-in-len2-up-clause-written : goal.returns-in-len2-up-clause-written
returns-in-len2-up-clause-written c = λ some.
    two_at c.args.bytes.now c.in-len2-up.len_at_least (λ i. let f = c.type_inv.bytes i in omega (arith, f))
    c.if-first-lt128.false c.if-second-gt0.true c.if-second-lt128.true
