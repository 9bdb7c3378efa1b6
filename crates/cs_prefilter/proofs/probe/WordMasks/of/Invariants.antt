use Rattle.std.proofs.Common.{ℕ, ◌<◌, length, get_or}
use Rattle.cs_prefilter.specs.declared.word.Word.{Word}
use Rattle.cs_prefilter.specs.WordBuckets.{IsInPart}
use Rattle.cs_prefilter.specs.Buckets.{HasBucket}
use Rattle.cs_prefilter.proofs.probe.WordMasks.of.Given as goal

abbrev pub invariant-loop-i : goal.invariant-loop-i
invariant-loop-i l = (k bucket : ℕ) (d : Word) → k < l.i → IsInPart (length l.words) bucket k
    → HasBucket l.word_masks bucket (get_or l.words k d)
