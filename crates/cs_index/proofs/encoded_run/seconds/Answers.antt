use Rattle.std.proofs.Common.{w8}
use Rattle.std.proofs.lemmas.Simd.{below_from_Fits}
use Rattle.cs_index.proofs.postings.ShortBytes.{lanes_of_seconds}
use Rattle.cs_index.proofs.encoded_run.seconds.Goals as goal

pub returns : goal.returns
returns c = lanes_of_seconds c.args.v c.fits-v.0 (below_from_Fits w8 c.args.v c.fits-v.1)
