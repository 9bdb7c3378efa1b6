use Rattle.std.proofs.Common.{◌∙◌, ap, sym, arith, w8}
use Rattle.std.specs.Simd.Lanes.{sum_l}
use Rattle.std.proofs.lemmas.Simd.{chunk-fits}
use Rattle.cs_index.proofs.postings.Prefixes.{Lanes, lanes, sixteen_bits}
use Rattle.cs_index.proofs.encoded_run.sixteen.Goals as goal

pub returns-then-not-have_short_deltas : goal.returns-then-not-have_short_deltas
returns-then-not-have_short_deltas c = sym c.if-not-have_short_deltas.ensures

pub overflow_sub-result : goal.overflow_sub-result
overflow_sub-result c =
    let bits = sixteen_bits c.args.bytes.now c.first_bits-firsts.result c.requires c.first_bits-firsts.ensures in
    omega (arith, bits.0)

pub overflow_sub-result-2 : goal.overflow_sub-result-2
overflow_sub-result-2 c = (sixteen_bits c.args.bytes.now c.first_bits-firsts.result c.requires c.first_bits-firsts.ensures).1

all : (c : goal.After-sum_of-2) → Lanes c.args.bytes.now c.first_bits-firsts.result c.sum_of.result c.sum_of-2.result c.saturating_sub-begun.result
all c =
    lanes c.args.bytes.now c.first_bits-firsts.result c.sum_of.result c.sum_of-2.result c.saturating_sub-begun.result c.requires
    (chunk-fits w8 0 16 c.args.bytes.now c.type_inv.bytes) (sym c.if-not-have_short_deltas.ensures) c.first_bits-firsts.ensures
    c.sum_of.ensures (c.sum_of-2.ensures ∙ ap sum_l c.seconds.ensures) c.saturating_sub-begun.ensures

pub overflow_mul-result : goal.overflow_mul-result
overflow_mul-result c = let l = all c in record { fits = omega (arith, l.high_small) }

pub overflow_add-result : goal.overflow_add-result
overflow_add-result c = let l = all c in record { fits = omega (arith, l.high_small, l.total_small) }

pub overflow_sub-result-3 : goal.overflow_sub-result-3
overflow_sub-result-3 c = let l = all c in omega (arith, l.covers)

pub overflow_sub-result-4 : goal.overflow_sub-result-4
overflow_sub-result-4 c = let l = all c in omega (arith, l.covers)

pub returns : goal.returns
returns c =
    let bits = sixteen_bits c.args.bytes.now c.first_bits-firsts.result c.requires c.first_bits-firsts.ensures in
    ((all c).prefix, omega (arith, bits.0))
