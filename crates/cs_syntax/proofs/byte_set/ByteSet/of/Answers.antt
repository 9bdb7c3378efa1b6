use Rattle.std.proofs.Common.{arith}
use Rattle.cs_syntax.proofs.ByteSetWordLemmas.{set_words-set_of_bits, answers_begin, answered_no, answered_yes, answered_all}
use Rattle.cs_syntax.proofs.byte_set.ByteSet.of.Goals as goal
use Rattle.cs_syntax.proofs.byte_set.ByteSet.of.Goals.{then-test, else-test}

pub loop-b-init : goal.loop-b-init
loop-b-init g c = answers_begin _

pub loop-b-preserved : goal.loop-b-preserved
loop-b-preserved g c =
    elim c.if-test.branch [
      | then-test w ↦ rw w.words-is (answered_yes _ c.loop-b.b c.loop-b.words (omega arith) c.loop-b.invariant
          (rw w.if-test.true at c.test.ensures))
      | else-test w ↦ rw w.words-is (answered_no _ c.loop-b.b c.loop-b.words c.loop-b.invariant (rw w.if-test.false at c.test.ensures))
    ]

pub invariant_of-result : goal.invariant_of-result
invariant_of-result g c = let i = c.loop-b.invariant in set_words-set_of_bits c.loop-b.words i.four i.fit

pub returns : goal.returns
returns g c = λ f agree. answered_all _ c.loop-b.b c.loop-b.words f (omega arith) c.loop-b.invariant agree
