use Rattle.cs_syntax.specs.Matching.{alt}
use Rattle.cs_trigram.specs.EndStrings.{forward, backward}
use Rattle.cs_trigram.proofs.NodeListLemmas.{if_ok}
use Rattle.cs_trigram.proofs.EndStringOriginLemmas.{end_strings_of_alternation}
use Rattle.cs_trigram.proofs.CorrectQueryLemmas.{correct_alternation}
use Rattle.cs_trigram.proofs.analysis.AlternationInfo.finish.Goals as goal

pub returns : goal.returns
returns c =
    if_ok c.new.result _ _ c.new.ensures
    (λ _ right. λ ts info.
    right (alt ts) info.exact
    (end_strings_of_alternation forward _ ts info.prefix) (end_strings_of_alternation backward _ ts info.suffix)
    (correct_alternation c.args.self.members ts info.members))
