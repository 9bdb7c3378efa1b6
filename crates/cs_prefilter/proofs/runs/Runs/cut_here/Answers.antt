use Rattle.std.proofs.Common.{sym, subst}
use Rattle.cs_prefilter.specs.Words.{HasWordOf}
use Rattle.cs_prefilter.proofs.runs.Runs.cut_here.Goals as goal

pub returns-clause-best : goal.returns-clause-best
returns-clause-best c = λ line j e has.
    subst (HasWordOf line) (sym c.begin_repeat.ensures.best) (c.in_ok-cut.ensures.best line j e has)
