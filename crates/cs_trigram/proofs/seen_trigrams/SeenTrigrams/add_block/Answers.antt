use Rattle.std.proofs.Common.{◌+◌, length, take, arith, sym, ap, ◌∙◌}
use Rattle.std.proofs.lemmas.Bool.{ltb-true, ltb-false}
use Rattle.std.proofs.lemmas.List.{take_rest}
use Rattle.cs_trigram.proofs.SixgramCacheLemmas.{whole-write}
use Rattle.cs_trigram.proofs.SeenTrigramLemmas.{HasSeen-more, HasSeen-over}
use Rattle.cs_trigram.specs.declared.seen_trigrams.TheConstants.{WITH_TWO}
use Rattle.cs_trigram.proofs.seen_trigrams.SeenTrigrams.add_block.Goals as goal

pub returns-then-is_over_limit : goal.returns-then-is_over_limit
returns-then-is_over_limit c = λ most trigrams keeps.
    let self = c.args.self.now in
    let over = ltb-true (length self.list.items) (self.len + WITH_TWO) (sym c.is_over_limit.ensures.room ∙ c.if-is_over_limit.true) in
    HasSeen-over most self trigrams _ keeps (omega (arith, over, keeps.room))

pub returns : goal.returns
returns c = λ most trigrams keeps.
    let self = c.args.self.now in
    let under = ltb-false (length self.list.items) (self.len + WITH_TWO) (sym c.is_over_limit.ensures.room ∙ c.if-is_over_limit.false) in
    let bitmap = whole-write self.bitmap.len c.insert_split-self.new.bitmap self.bitmap.items
    (omega (arith, self.bitmap.ok.0)) (omega (
      arith,
      c.insert_split-self.auto.bitmap,
      c.deref_mut.ensures.len,
      self.bitmap.ok.0,
    )) in
    let list = whole-write self.list.len c.insert_split-self.new.list self.list.items (omega (arith, self.list.ok.0))
    (omega (arith, c.insert_split-self.auto.list, c.deref_mut-2.ensures.len, self.list.ok.0)) in
    HasSeen-more most self _ trigrams c.args.bytes.now c.split-split.result.offset
    (take c.split-split.result.count c.split-split.new.self.misses.items) keeps (omega (arith, under, keeps.room))
    (ap length list ∙ omega (arith, c.insert_split-self.auto.list, c.deref_mut-2.ensures.len, self.list.ok.0))
    (omega (arith, ap length list, c.insert_split-self.auto.list, c.insert_split-self.ensures.counted))
    (c.split-split.ensures.misses trigrams) c.split-split.ensures.file c.split-split.ensures.last
    (rw (
      bitmap,
      list,
      ← c.deref_mut.ensures.value,
      ← c.deref_mut-2.ensures.value,
      ← c.misses-misses.ensures,
      ← take_rest c.args.bytes.now c.split-split.result.offset,
    ) c.insert_split-self.ensures.collects)
