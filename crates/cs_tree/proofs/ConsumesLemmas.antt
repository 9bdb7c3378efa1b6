-- Sequences of reads.
use Rattle.std.proofs.Common.{◌≡◌, ◌≤◌, ℕ, ◌+◌, ◌-◌, List, sym, ap, ◌∙◌, drop, length, Option, Some, None, arith, length-append}
use Rattle.cs_tree.specs.Transfers.{Consumes}
use Rattle.cs_tree.specs.ConsumesAtMost.{ConsumesAtMost}
use Rattle.std.proofs.Math.Seq.{drop-append_seam}
use Rattle.cs_tree.specs.StreamModels.{SourceModel}

-- an upper bound of the bytes that were read
pub Consumes_few : (a b : Option SourceModel) (xs : List ℕ) (most : ℕ) → Consumes a b xs → length xs ≤ most → ConsumesAtMost most a b
Consumes_few None b xs most h bound = tt
Consumes_few (Some a) None xs most h bound = absurd h
Consumes_few (Some a) (Some b) xs most h bound =
    let count : length a.bytes ≡ length xs + length b.bytes = ap length h.0 ∙ length-append xs b.bytes in
    let lost : length a.bytes - length b.bytes ≡ length xs = omega arith in
    (sym (ap (λ n. drop n a.bytes) lost ∙ ap (λ bytes. drop (length xs) bytes) h.0 ∙ drop-append_seam xs b.bytes), omega arith, h.1)
