use Rattle.std.proofs.Common.{◌+◌, get_or, ap, ◌∙◌, not, eqb, arith}
use Rattle.std.specs.Int.{bit_at}
use Rattle.cs_prefilter.proofs.BitLemmas.{in_both, nonzero_from_bit}
use Rattle.cs_prefilter.proofs.BucketLemmas.{word_looked_up}
use Rattle.cs_prefilter.proofs.probe.NibblesProbe.lanes.Goals as goal

pub loop-i-init : goal.loop-i-init
loop-i-init g c k bucket word below has occurs =
    ap (λ n. bit_at n bucket) (c.lanes-lanes.ensures.each k below)
    ∙ word_looked_up (not (eqb g.row.ALL 0)) c.args.self.now.masks c.args.text.now (c.args.offset + k) bucket word
    (λ i. (c.type_inv.text i).fits) has occurs 0 _ (omega arith) _ (omega arith)

pub loop-i-preserved : goal.loop-i-preserved
loop-i-preserved g c k bucket word below has occurs =
    ap (λ n. bit_at n bucket) (c.both-lanes.ensures.each k below)
    ∙ in_both _ _ bucket (c.loop-i.invariant k bucket word below has occurs)
    (ap (λ n. bit_at n bucket) (c.lanes.ensures.each k below)
    ∙ word_looked_up (not (eqb g.row.ALL 0)) c.args.self.now.masks c.args.text.now (c.args.offset + k) bucket word
    (λ i. (c.type_inv.text i).fits) has occurs c.loop-i.i _ (omega arith) _ (omega arith))

pub returns : goal.returns
returns g c k bucket word below has occurs zero =
    nonzero_from_bit (get_or c.loop-i.lanes k 0) bucket (c.loop-i.invariant k bucket word below has occurs) zero
