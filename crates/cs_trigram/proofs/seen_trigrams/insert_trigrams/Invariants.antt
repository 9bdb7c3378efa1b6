use Rattle.std.proofs.Common.{◌+◌, ◌-◌, ◌≤◌, take, length}
use Rattle.cs_trigram.specs.TrigramBitmap.{CollectsOn}
use Rattle.cs_trigram.specs.Trigram.{trigram_sequence}
use Rattle.cs_trigram.proofs.seen_trigrams.insert_trigrams.Given as goal

abbrev pub invariant-trigrams : goal.invariant-trigrams
invariant-trigrams l = record {
  within : l.offset ≤ length l.bytes;
  counted : l.len ≤ l.initial.len + l.offset;
  collects : CollectsOn l.initial.bitmap l.initial.list l.initial.len l.bitmap l.list l.len
      (trigram_sequence (take (l.offset + 2) l.bytes));
}

abbrev pub decreases-trigrams : goal.decreases-trigrams
decreases-trigrams l = length l.bytes - l.offset
