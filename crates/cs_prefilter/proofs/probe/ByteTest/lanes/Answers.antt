use Rattle.std.proofs.Common.{rules, ◌+◌, ◌∙◌, sym, ap, List, ℕ, length, get_or, bit_or}
use Rattle.cs_prefilter.specs.Lanes.{full_if_equal}
use Rattle.cs_prefilter.proofs.LaneLemmas.{of_splat}
use Rattle.cs_prefilter.proofs.PairLemmas.{mask_of_flag, no_mask_of_flag}
use Rattle.std.specs.Int.Bits.{or_zero_r}
use Rattle.cs_prefilter.proofs.probe.ByteTest.lanes.Goals as goal
use Rattle.cs_prefilter.proofs.probe.ByteTest.lanes.Goals.{then-this-ne0, else-this-ne0}

pub returns : goal.returns
returns g c =
    let test = c.args.self.now in
    elim c.if-this-ne0.branch [
      | then-this-ne0 w ↦ record {
        long = ap (λ (v : List ℕ). length v) w.result-is ∙ w.equal_to.ensures.long;
        each = λ k below.
            ap (λ (v : List ℕ). get_or v k 0) w.result-is ∙ w.equal_to.ensures.each k below
            ∙ ap (λ n. full_if_equal n test.byte) ((of_splat bit_or c.load-bytes.result test.mask (search rules)).each k below
            ∙ ap (λ n. bit_or n test.mask) (c.load-bytes.ensures.each k below)
            ∙ ap (bit_or (get_or c.args.text.now (c.args.offset + k) 0)) (sym (mask_of_flag g.row.FOLDED test w.if-this-ne0.true)));
      }
      | else-this-ne0 w ↦ record {
        long = ap (λ (v : List ℕ). length v) w.result-is ∙ w.equal_to-else-this-ne0.ensures.long;
        each = λ k below.
            ap (λ (v : List ℕ). get_or v k 0) w.result-is ∙ w.equal_to-else-this-ne0.ensures.each k below
            ∙ ap (λ n. full_if_equal n test.byte) (c.load-bytes.ensures.each k below
            ∙ sym (or_zero_r (get_or c.args.text.now (c.args.offset + k) 0))
            ∙ ap (bit_or (get_or c.args.text.now (c.args.offset + k) 0)) (sym (no_mask_of_flag g.row.FOLDED test w.if-this-ne0.false)));
      }
    ]
