use Rattle.std.proofs.Common.{sym, ◌∙◌, arith}
use Rattle.cs_prefilter.proofs.ByteTestLemmas.{only_passes, both_cases_pass}
use Rattle.cs_prefilter.proofs.probe.ByteTest.of.Goals as goal

pub returns-in-Some : goal.returns-in-Some
returns-in-Some c b small = only_passes c.args.set.now c.in-Some.byte b c.in-Some.ensures.some

pub returns-then-contains-2 : goal.returns-then-contains-2
returns-then-contains-2 c b small = both_cases_pass c.args.set.now c.loop-byte.byte b (omega arith) (omega arith)
    (sym c.len.ensures.members ∙ c.if-len-ne2.false) (sym c.contains.ensures ∙ c.if-contains.true)
    (sym c.contains-then-contains.ensures ∙ c.if-contains-2.true)
