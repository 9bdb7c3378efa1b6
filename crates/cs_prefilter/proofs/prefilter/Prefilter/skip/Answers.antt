use Rattle.std.proofs.Common.{Bool, List, subst}
use Rattle.std.specs.Prelude.{Any}
use Rattle.cs_prefilter.specs.declared.word.Word.{Word}
use Rattle.cs_prefilter.specs.WordAt.{WordAt, NoWordFrom}
use Rattle.cs_prefilter.proofs.prefilter.Prefilter.skip.Goals as goal

pub returns-clause-none : goal.returns-clause-none
returns-clause-none c =
    subst (λ (p : List Word × Bool). NoWordFrom p.0 c.args.text.now c.args.from c.first.result.offset) c.self.view_is
    c.first.ensures.stop.none

pub returns-clause-stops : goal.returns-clause-stops
returns-clause-stops c has =
    subst (λ (p : List Word × Bool). Any (WordAt c.args.text.now c.first.result.offset) p.0) c.self.view_is
    (c.first.ensures.stop.stops has)
