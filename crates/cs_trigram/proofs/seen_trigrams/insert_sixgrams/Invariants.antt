use Rattle.std.proofs.Common.{◌+◌, ◌*◌, ◌≤◌, take}
use Rattle.cs_trigram.specs.TrigramBitmap.{CollectsOn}
use Rattle.cs_trigram.specs.Sixgrams.{trigrams_of_sixgrams}
use Rattle.cs_trigram.proofs.seen_trigrams.insert_sixgrams.Given as goal

abbrev pub invariant-loop-sixgram : goal.invariant-loop-sixgram
invariant-loop-sixgram l = record {
  counted : l.len ≤ l.initial.len + 4 * l.sixgram-index;
  collects : CollectsOn l.initial.bitmap l.initial.list l.initial.len l.bitmap l.list l.len
      (trigrams_of_sixgrams (take l.sixgram-index l.sixgrams));
}
