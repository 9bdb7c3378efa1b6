use Rattle.std.proofs.Common.{◌≤◌, ◌-◌, ◌*◌, ℕ, List, take, length}
use Rattle.cs_trigram.specs.Sixgrams.{CachesOnly, HasNoLaterFile, AreMisses}
use Rattle.cs_trigram.proofs.seen_trigrams.split_bytes.Given as goal

abbrev pub invariant-sixgrams : goal.invariant-sixgrams
invariant-sixgrams l = record {
  within : l.offset ≤ length l.bytes;
  counted : 4 * l.count ≤ l.offset;
  misses : (earlier : List ℕ) → CachesOnly l.file l.initial.tags earlier → AreMisses l.file earlier l.tags l.bytes
      l.offset (take l.count l.misses);
  last : HasNoLaterFile l.file l.initial.tags → HasNoLaterFile l.file l.tags;
}

abbrev pub decreases-sixgrams : goal.decreases-sixgrams
decreases-sixgrams l = length l.bytes - l.offset
