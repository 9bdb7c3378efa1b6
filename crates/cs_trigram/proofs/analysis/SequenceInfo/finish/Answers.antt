use Rattle.cs_syntax.specs.Matching.{cat}
use Rattle.cs_trigram.proofs.NodeListLemmas.{if_ok}
use Rattle.cs_trigram.proofs.analysis.SequenceInfo.finish.Goals as goal

pub returns : goal.returns
returns c =
    if_ok c.new.result _ _ c.new.ensures
    (λ _ right. λ ts info. right (cat ts) info.exact info.prefix info.suffix (c.in_ok-query.ensures ts info.required info.small))
