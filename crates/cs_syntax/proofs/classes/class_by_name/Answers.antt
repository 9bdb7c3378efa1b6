use Rattle.std.proofs.Common.{refl}
use Rattle.cs_syntax.specs.Classes.{class_by_name}
use Rattle.cs_syntax.proofs.NamedClassLemmas.{picked-here, picked-later, picked-nowhere}
use Rattle.cs_syntax.proofs.classes.class_by_name.Goals as goal

pub loop-word-init : goal.loop-word-init
unfolding class_by_name
loop-word-init c = refl

pub returns-then-eq : goal.returns-then-eq
returns-then-eq c =
    picked-here _ _ _ _ c.loop-word.invariant _ _ _ c.loop-word-test.true c.as_bytes.ensures.value c.eq.ensures c.if-eq.true

pub loop-word-preserved : goal.loop-word-preserved
loop-word-preserved c =
    picked-later _ _ _ _ c.loop-word.invariant _ _ _ c.loop-word-test.true c.as_bytes.ensures.value c.eq.ensures c.if-eq.false

pub returns : goal.returns
returns c = picked-nowhere _ _ _ _ c.loop-word.invariant c.loop-word-test.false
