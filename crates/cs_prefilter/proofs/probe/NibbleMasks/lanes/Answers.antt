use Rattle.std.proofs.Common.{◌+◌, ◌%◌, ◌∙◌, sym, ap, List, ℕ, length, get_or, bit_and}
use Rattle.cs_prefilter.specs.Buckets.{buckets}
use Rattle.cs_prefilter.proofs.BucketLemmas.{all_of_flag, low_of_flag}
use Rattle.cs_prefilter.proofs.probe.NibbleMasks.lanes.Goals as goal
use Rattle.cs_prefilter.proofs.probe.NibbleMasks.lanes.Goals.{then-this-ne0, else-this-ne0}

pub returns : goal.returns
unfolding buckets
returns g c =
    let masks = c.args.self.now in
    let text = c.args.text.now in
    let at = c.args.offset in
    let byte = c.load-bytes.ensures.each in
    elim c.if-this-ne0.branch [
      | then-this-ne0 w ↦ record {
        long = ap (λ (v : List ℕ). length v) w.result-is ∙ w.both.ensures.long;
        each = λ k below.
            ap (λ (v : List ℕ). get_or v k 0) w.result-is ∙ w.both.ensures.each k below
            ∙ (λ i. bit_and (c.by_low_nibble-low.ensures.each k below i) (w.by_high_nibble.ensures.each k below i))
            ∙ ap (buckets masks) (byte k below) ∙ sym (all_of_flag g.row.ALL masks (get_or text (at + k) 0) w.if-this-ne0.true);
      }
      | else-this-ne0 w ↦ record {
        long = ap (λ (v : List ℕ). length v) w.result-is ∙ c.by_low_nibble-low.ensures.long;
        each = λ k below.
            ap (λ (v : List ℕ). get_or v k 0) w.result-is ∙ c.by_low_nibble-low.ensures.each k below
            ∙ ap (λ n. get_or masks.low (n % 16) 0) (byte k below)
            ∙ sym (low_of_flag g.row.ALL masks (get_or text (at + k) 0) w.if-this-ne0.false);
      }
    ]
