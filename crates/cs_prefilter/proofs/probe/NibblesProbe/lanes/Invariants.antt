use Rattle.std.proofs.Common.{◌≡◌, ℕ, ◌+◌, ◌<◌, get_or}
use Rattle.std.specs.Int.{bit_at}
use Rattle.cs_prefilter.specs.declared.word.Word.{Word}
use Rattle.cs_prefilter.specs.WordAt.{WordAt}
use Rattle.cs_prefilter.specs.Buckets.{HasBucket}
use Rattle.cs_prefilter.proofs.probe.NibblesProbe.lanes.Given as goal

abbrev pub invariant-loop-i : goal.invariant-loop-i
invariant-loop-i g l = (k bucket : ℕ) (word : Word) → k < 32 → HasBucket l.self.masks bucket word
    → WordAt l.text (l.offset + k) word → bit_at (get_or l.lanes k 0) bucket ≡ 1
