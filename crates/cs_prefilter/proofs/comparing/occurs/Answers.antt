use Rattle.std.proofs.Common.{refl, sym}
use Rattle.cs_prefilter.proofs.comparing.occurs.Goals as goal

pub returns-then-occurs-clause-found : goal.returns-then-occurs-clause-found
returns-then-occurs-clause-found c = (
  λ _. (
    c.loop-word.word-index,
    c.word-item.result,
    c.loop-word-test.true,
    sym c.word-item.is,
    c.occurs.ensures.found.0 c.if-occurs.true,
  ),
  λ _. refl,
)
