use Rattle.cs_trigram.specs.EndStrings.{forward, backward}
use Rattle.cs_trigram.proofs.NodeListLemmas.{if_ok}
use Rattle.cs_trigram.proofs.EndStringOriginLemmas.{any_end_strings}
use Rattle.cs_trigram.proofs.CorrectQueryLemmas.{leaf_match_query}
use Rattle.cs_trigram.proofs.analysis.RegexpInfo.of_leaf.Goals as goal

pub returns : goal.returns
returns c =
    if_ok c.new.result _ _ c.new.ensures
    (λ _ right. λ t exact within. right t exact (any_end_strings forward _ t c.in_ok-prefix.ensures)
    (any_end_strings backward _ t c.in_ok-suffix.ensures) (leaf_match_query t within))
