use Rattle.std.proofs.Common.{arith, sym, subst}
use Rattle.cs_trigram.specs.Sixgrams.{CachesOnly}
use Rattle.cs_trigram.proofs.SixgramCacheLemmas.{whole-write}
use Rattle.cs_trigram.proofs.seen_trigrams.SixgramCache.split.Goals as goal

pub returns-clause-misses : goal.returns-clause-misses
returns-clause-misses c = λ earlier caches_only.
    let self = c.args.self.now in
    rw (
      whole-write self.tags.len c.split_bytes.new.tags self.tags.items (omega (arith, self.tags.ok.0))
          (omega (arith, c.split_bytes.auto.tags, c.deref_mut.ensures.len, self.tags.ok.0)),
      whole-write self.misses.len c.split_bytes.new.misses self.misses.items (omega (arith, self.misses.ok.0))
          (omega (arith, c.split_bytes.auto.misses, c.deref_mut-2.ensures.len, self.misses.ok.0)),
    )
    (c.split_bytes.ensures.misses earlier (subst (λ ts. CachesOnly self.file ts earlier) (sym c.deref_mut.ensures.value) caches_only))
