use Rattle.std.proofs.Common.{◌≡◌, ℕ}
use Rattle.std.specs.Int.{bit_at}
use Rattle.cs_prefilter.specs.declared.word.Word.{Word}
use Rattle.cs_prefilter.specs.WordAt.{WordAt}
use Rattle.cs_prefilter.specs.Buckets.{HasBucket}
use Rattle.cs_prefilter.proofs.probe.NibblesProbe.buckets.Given as goal

abbrev pub invariant-loop-i : goal.invariant-loop-i
invariant-loop-i g l = (bucket : ℕ) (word : Word) → HasBucket l.self.masks bucket word
    → WordAt l.text l.offset word → bit_at l.buckets bucket ≡ 1
