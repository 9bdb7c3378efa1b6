use Rattle.std.proofs.Common.{◌≡◌, ℕ, ◌/◌, ◌^◌, ◌<◌, List, length, get_or, arith, w8, Fits}
use Rattle.std.proofs.lemmas.Simd.{Each1-get_or}
use Rattle.std.specs.Simd.Lanes.{Each1}
use Rattle.cs_prefilter.proofs.LaneLemmas.{of_splat, may_look_up, looked_up}
use Rattle.cs_prefilter.proofs.probe.by_high_nibble.Goals as goal

small : (bytes : List ℕ) → length bytes ≡ 32 → Each1 (Fits w8) bytes → (k : ℕ) → k < 32 → get_or bytes k 0 / 16 < 16
small bytes long fits k below = omega (arith, (Each1-get_or (Fits w8) bytes k 0 (omega arith) fits).fits)

pub swizzle : goal.swizzle
swizzle c =
    may_look_up _ _ (of_splat (λ a b. a / 2 ^ b) c.args.bytes 4 c.fits-bytes.0)
    (small c.args.bytes c.fits-bytes.0 c.fits-bytes.1)

pub returns : goal.returns
returns c =
    looked_up _ c.args.table.now _ _ c.in_each_half.ensures
    (of_splat (λ a b. a / 2 ^ b) c.args.bytes 4 c.fits-bytes.0)
    (small c.args.bytes c.fits-bytes.0 c.fits-bytes.1)
