use Rattle.std.proofs.Common.{◌≡◌, ℕ, ◌%◌, List, length, get_or, replicate, ◌∙◌, arith, bit_and}
use Rattle.std.proofs.lemmas.Nat.{and_mask}
use Rattle.std.specs.Simd.Lanes.{zip2}
use Rattle.cs_prefilter.specs.Lanes.{HasLanes}
use Rattle.cs_prefilter.proofs.LaneLemmas.{of_splat, may_look_up, looked_up}
use Rattle.cs_prefilter.proofs.probe.by_low_nibble.Goals as goal

low_nibbles : (bytes : List ℕ) → length bytes ≡ 32
    → HasLanes (zip2 bit_and bytes (replicate 32 15)) (λ k. get_or bytes k 0 % 16)
low_nibbles bytes long =
    let masked = of_splat bit_and bytes 15 long in
    record { long = masked.long; each = λ k below. masked.each k below ∙ and_mask (get_or bytes k 0) 4 }

pub swizzle : goal.swizzle
swizzle c = may_look_up _ _ (low_nibbles c.args.bytes c.fits-bytes.0) (λ k below. omega arith)

pub returns : goal.returns
returns c =
    looked_up _ c.args.table.now _ _ c.in_each_half.ensures (low_nibbles c.args.bytes c.fits-bytes.0)
    (λ k below. omega arith)
