use Rattle.cs_prefilter.proofs.LaneLemmas.{mask_of_nonzero}
use Rattle.cs_prefilter.proofs.probe.nonzero.Goals as goal

pub returns : goal.returns
returns c k = mask_of_nonzero c.args.v k c.fits-v.0
