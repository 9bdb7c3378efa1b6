use Rattle.cs_trigram.proofs.TrigramBitmapLemmas.{IsPartlyCleared}
use Rattle.cs_trigram.proofs.seen_trigrams.clear_bits.Given as goal

abbrev pub invariant-loop-number : goal.invariant-loop-number
invariant-loop-number l = IsPartlyCleared l.bitmap l.numbers l.number-index
