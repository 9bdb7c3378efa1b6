use Rattle.std.proofs.Common.{inl, inr, arith}
use Rattle.std.proofs.lemmas.Bool.{cases_lt}
use Rattle.cs_prefilter.proofs.scan.skip_strides.Goals as goal

pub strides-preserved : goal.strides-preserved
strides-preserved g c = record {
  low = omega (arith, c.strides.invariant.low);
  high = omega (arith, c.strides-test.true);
  none = λ k bucket word low high finds occurs. elim (cases_lt k c.strides.offset) [
    | inl before ↦ c.strides.invariant.none k bucket word low before finds occurs
    | inr after ↦ c.none_passes.ensures c.if-none_passes.true k bucket word after high finds occurs
  ];
  work = omega (arith, c.add.ensures, c.strides.invariant.work, c.strides.invariant.low);
}
