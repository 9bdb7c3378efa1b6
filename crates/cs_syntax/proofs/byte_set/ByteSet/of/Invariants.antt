use Rattle.cs_syntax.proofs.ByteSetWordLemmas.{HaveAnswers}
use Rattle.cs_syntax.proofs.byte_set.ByteSet.of.Given as goal

abbrev pub invariant-loop-b : goal.invariant-loop-b
invariant-loop-b g l = HaveAnswers (goal.F-post g l.test) l.b l.words
