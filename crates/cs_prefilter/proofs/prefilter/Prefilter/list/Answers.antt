use Rattle.std.proofs.Common.{◌-◌, Bool, List, drop, subst}
use Rattle.cs_prefilter.specs.declared.word.Word.{Word}
use Rattle.cs_prefilter.specs.Listed.{AreEndsTo}
use Rattle.cs_prefilter.proofs.prefilter.Prefilter.list.Goals as goal

pub returns-clause-ends : goal.returns-clause-ends
returns-clause-ends c =
    subst (λ (p : List Word × Bool). AreEndsTo p.0 (drop c.args.from c.args.text.now) c.args.from (c.list.result.to - c.args.from)
    c.list.result.count c.list.new.ends) c.self.view_is c.list.ensures.ends
