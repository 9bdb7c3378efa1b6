use Rattle.cs_listing.proofs.TypeLemmas.{globs_here, globs_later, globs_nowhere}
use Rattle.cs_listing.proofs.types.globs_in.Goals as goal

pub returns-then-eq : goal.returns-then-eq
returns-then-eq c = globs_here _ _ _ _ c.types.invariant _ _ c.types-test.true c.eq.ensures c.if-eq.true

pub types-preserved : goal.types-preserved
types-preserved c = globs_later _ _ _ _ c.types.invariant _ _ c.types-test.true c.eq.ensures c.if-eq.false

pub returns : goal.returns
returns c = globs_nowhere _ _ _ _ c.types.invariant c.types-test.false
