use Rattle.std.proofs.lemmas.Simd.{length-chunk, get_or-chunk}
use Rattle.cs_prefilter.proofs.probe.load.Goals as goal

pub returns : goal.returns
returns c = record {
  long = length-chunk c.args.offset 32 c.args.text.now c.requires;
  each = λ k below. get_or-chunk c.args.offset 32 c.args.text.now k 0 below;
}
