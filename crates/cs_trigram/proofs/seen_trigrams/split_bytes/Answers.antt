use Rattle.std.proofs.Common.{◌∙◌, arith, sym, subst}
use Rattle.cs_trigram.specs.Sixgrams.{HasNoLaterFile}
use Rattle.cs_trigram.proofs.SixgramCacheLemmas.{tagged_sixgram}
use Rattle.cs_trigram.proofs.seen_trigrams.split_bytes.Goals as goal

pub sixgrams-preserved : goal.sixgrams-preserved
sixgrams-preserved c =
    let is = tagged_sixgram c.args.file c.sixgram_at.result c.requires.file c.sixgram_at.ensures.small in
    record {
      within = omega (arith, c.sixgrams-test.true);
      counted = omega (arith, c.cache_sixgram-count.ensures.counted, c.sixgrams.invariant.counted);
      misses = λ earlier caches_only.
          c.cache_sixgram-count.ensures.misses c.args.file earlier c.args.bytes.now c.sixgrams.offset is.1
          (is.0 ∙ c.sixgram_at.ensures.trigrams) (omega (arith, c.sixgrams-test.true))
          (c.sixgrams.invariant.misses earlier caches_only);
      last = λ last.
          subst (λ f. HasNoLaterFile f c.cache_sixgram-count.new.tags) is.1
          (c.cache_sixgram-count.ensures.last (subst (λ f. HasNoLaterFile f c.sixgrams.tags) (sym is.1) (c.sixgrams.invariant.last last)));
    }
