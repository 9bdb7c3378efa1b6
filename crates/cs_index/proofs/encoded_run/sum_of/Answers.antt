use Rattle.std.proofs.Common.{◌≡◌, ◌+◌, ℕ, List, ap, subst, sym, ◌∙◌, arith, w16, Fits}
use Rattle.std.specs.Simd.Lanes.{sum_l, fold_l, Steps}
use Rattle.std.proofs.lemmas.Simd.{sum_fits, fold-sum}
use Rattle.cs_index.proofs.postings.ShortBytes.{same_lanes, sum_bounded}
use Rattle.cs_index.proofs.encoded_run.sum_of.Goals as goal

pub overflow_add-result : goal.overflow_add-result
overflow_add-result c =
    let most = sum_bounded c.args.v c.fits-v.0 c.fits-v.1 in
    subst (λ (xs : List ℕ). Steps (λ s x. Fits w16 (s + x)) (λ s x. s + x) 0 xs) (sym (same_lanes c.args.v))
    (sum_fits w16 0 c.args.v (omega (arith, most)))

pub returns : goal.returns
returns c =
    ap (λ (xs : List ℕ). fold_l (λ s x. s + x) 0 xs) (same_lanes c.args.v) ∙ fold-sum 0 c.args.v
    ∙ (let z : 0 + sum_l c.args.v ≡ sum_l c.args.v = omega arith in z)
