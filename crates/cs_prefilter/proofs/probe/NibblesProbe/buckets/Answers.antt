use Rattle.std.proofs.Common.{true, ap, ◌∙◌, arith}
use Rattle.std.specs.Int.{bit_at}
use Rattle.cs_prefilter.proofs.BitLemmas.{in_both}
use Rattle.cs_prefilter.proofs.BucketLemmas.{word_looked_up}
use Rattle.cs_prefilter.proofs.probe.NibblesProbe.buckets.Goals as goal

pub loop-i-init : goal.loop-i-init
loop-i-init g c bucket word has occurs =
    ap (λ n. bit_at n bucket) c.of-buckets.ensures
    ∙ word_looked_up true c.args.self.now.masks c.args.text.now c.args.offset bucket word (λ i. (c.type_inv.text i).fits) has occurs
    0 _ (omega arith) _ (omega arith)

pub loop-i-preserved : goal.loop-i-preserved
loop-i-preserved g c bucket word has occurs =
    in_both _ _ bucket (c.loop-i.invariant bucket word has occurs)
    (ap (λ n. bit_at n bucket) c.of-buckets-in-loop-i.ensures
    ∙ word_looked_up true c.args.self.now.masks c.args.text.now c.args.offset bucket word (λ i. (c.type_inv.text i).fits) has occurs
    c.loop-i.i _ (omega arith) _ (omega arith))
