use Rattle.std.proofs.Common.{◌≡◌, ◌∙◌, sym, ap, refl}
use Rattle.cs_cindex.proofs.Common.{are_distinct}
use Rattle.cs_cindex.proofs.ReplacedIndexLemmas.{replaced_merges}
use Rattle.cs_cindex.proofs.walked.replace_old.Goals as goal

pub returns-in-Ok-true-clause-merged : goal.returns-in-Ok-true-clause-merged
returns-in-Ok-true-clause-merged g c = λ bytes known parts are. record {
  merges = replaced_merges parts c.args.index.bytes (ap are_distinct (sym are.names) ∙ c.requires.fit.distinct)
      c.requires.newer.walk (c.requires.newer.covers bytes parts are)
      (sym (c.in-Ok-true.ensures.whole bytes known parts are) ∙ c.in-Ok-true.field-0-test);
  short = c.requires.newer.walk.short;
}

pub returns-in-Ok-false-clause-merged : goal.returns-in-Ok-false-clause-merged
returns-in-Ok-false-clause-merged g c = λ bytes known parts are sound.
    (refl, sym (c.in-Ok-false.ensures.whole bytes known parts are) ∙ c.in-Ok-false.field-0-test)
