use Rattle.std.proofs.Common.{◌≡◌, ◌+◌, length, map}
use Rattle.std.specs.Prelude.{string_bytes}
use Rattle.cs_command.specs.Words.{reading, items_after, items_of}
use Rattle.cs_command.proofs.words.read_items.Given as goal

-- the words that are left, after the items so far, are read as all words
abbrev pub invariant-words : goal.invariant-words
invariant-words l = record {
  same : items_of (map string_bytes l.words) ≡ items_after (reading l.items.items l.next) l.index (map string_bytes l.rest);
  count : l.index + length l.rest ≡ length l.words;
}

abbrev pub decreases-words : goal.decreases-words
decreases-words l = length l.rest
