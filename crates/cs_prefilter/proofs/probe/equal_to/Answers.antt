use Rattle.cs_prefilter.proofs.LaneLemmas.{equal_lanes}
use Rattle.cs_prefilter.proofs.probe.equal_to.Goals as goal

pub returns : goal.returns
returns c = equal_lanes c.args.v c.args.byte c.fits-v.0
