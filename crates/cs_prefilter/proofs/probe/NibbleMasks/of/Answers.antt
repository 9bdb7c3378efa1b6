use Rattle.std.proofs.Common.{refl}
use Rattle.cs_prefilter.specs.Buckets.{buckets}
use Rattle.cs_prefilter.proofs.probe.NibbleMasks.of.Goals as goal

pub returns : goal.returns
unfolding buckets
returns c = refl
