use Rattle.std.proofs.Common.{arith, sym}
use Rattle.cs_trigram.proofs.SplitTrigramLemmas.{sequence-more}
use Rattle.cs_trigram.proofs.TrigramBitmapLemmas.{Collects-chain}
use Rattle.cs_trigram.proofs.seen_trigrams.insert_trigrams.Goals as goal

pub trigrams-preserved : goal.trigrams-preserved
trigrams-preserved c =
    let more = sequence-more c.trigrams.offset c.args.bytes.now (omega (arith, c.trigrams-test.true)) in
    record {
      within = omega (arith, c.trigrams-test.true);
      counted = omega (arith, c.insert-len.ensures.counted, c.trigrams.invariant.counted);
      collects = rw (more, sym c.trigram.ensures.number)
          (Collects-chain _ _ _ _ _ _ _ _ _ _ _ c.trigrams.invariant.collects c.insert-len.ensures.collects);
    }
