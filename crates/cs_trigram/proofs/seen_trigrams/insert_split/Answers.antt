use Rattle.cs_trigram.proofs.TrigramBitmapLemmas.{Collects-chain}
use Rattle.cs_trigram.proofs.seen_trigrams.insert_split.Goals as goal

pub returns-clause-collects : goal.returns-clause-collects
returns-clause-collects c = Collects-chain _ _ _ _ _ _ _ _ _ _ _ c.insert_sixgrams-len.ensures.collects c.insert_trigrams.ensures.collects
