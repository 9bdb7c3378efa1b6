use Rattle.std.proofs.Common.{◌≡◌, ℕ, ◌+◌, ◌-◌, ◌*◌, ◌<◌, ◌≤◌, length, get_or, w8}
use Rattle.std.specs.Int.{bit_at, trailing_zeros}
use Rattle.cs_prefilter.specs.declared.word.Word.{Word}
use Rattle.cs_prefilter.specs.WordAt.{WordAt}
use Rattle.cs_prefilter.specs.WordBuckets.{IsInPart, bucket_work}
use Rattle.cs_prefilter.proofs.comparing.WordList.occur.Given as goal

abbrev pub invariant-buckets : goal.invariant-buckets
invariant-buckets l = record {
  none : (i bucket : ℕ) (d : Word) → i < length l.self.words.items → IsInPart (length l.self.words.items) bucket i
      → bit_at l.rest bucket ≡ 0 → WordAt l.text l.offset (get_or l.self.words.items i d) → ⊥;
  rises : l.fn.steps.count ≤ l.steps.count;
  work : l.steps.count ≤ l.fn.steps.count + trailing_zeros w8 l.rest * bucket_work;
}

abbrev pub decreases-buckets : goal.decreases-buckets
decreases-buckets l = 8 - trailing_zeros w8 l.rest
