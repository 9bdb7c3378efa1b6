use Rattle.std.proofs.Common.{arith}
use Rattle.cs_trigram.proofs.SixgramCacheLemmas.{sixgrams-more}
use Rattle.cs_trigram.proofs.TrigramBitmapLemmas.{Collects-chain}
use Rattle.cs_trigram.proofs.seen_trigrams.insert_sixgrams.Goals as goal

pub loop-sixgram-preserved : goal.loop-sixgram-preserved
loop-sixgram-preserved c = record {
  counted = omega (arith, c.insert_sixgram-len.ensures.counted, c.loop-sixgram.invariant.counted);
  collects = rw (sixgrams-more c.args.sixgrams.now c.loop-sixgram.sixgram-index c.loop-sixgram-test.true)
      (Collects-chain _ _ _ _ _ _ _ _ _ _ _ c.loop-sixgram.invariant.collects c.insert_sixgram-len.ensures.collects);
}
