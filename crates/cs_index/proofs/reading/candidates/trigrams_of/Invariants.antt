use Rattle.std.proofs.Common.{◌≡◌, take}
use Rattle.cs_index.specs.StoredEntries.{trigrams_listed}
use Rattle.cs_index.proofs.reading.candidates.trigrams_of.Given as goal

abbrev pub invariant-loop-entry : goal.invariant-loop-entry
invariant-loop-entry l = l.trigrams.items ≡ trigrams_listed (take l.entry-index l.entries)
