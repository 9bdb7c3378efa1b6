use Rattle.cs_trigram.proofs.TrigramBitmapLemmas.{Collects-chain}
use Rattle.cs_trigram.proofs.seen_trigrams.insert_sixgram.Goals as goal

pub returns-clause-collects : goal.returns-clause-collects
returns-clause-collects c =
    Collects-chain _ _ _ _ _ _ _ _ _ _ _ c.insert-len.ensures.collects
    (Collects-chain _ _ _ _ _ _ _ _ _ _ _ c.insert-len-2.ensures.collects
    (Collects-chain _ _ _ _ _ _ _ _ _ _ _ c.insert-len-3.ensures.collects c.insert.ensures.collects))
