use Rattle.std.proofs.Common.{bit_and}
use Rattle.cs_prefilter.proofs.LaneLemmas.{of_two}
use Rattle.cs_prefilter.proofs.probe.both.Goals as goal

pub returns : goal.returns
returns c = of_two bit_and c.args.a c.args.b c.fits-a.0 c.fits-b.0
