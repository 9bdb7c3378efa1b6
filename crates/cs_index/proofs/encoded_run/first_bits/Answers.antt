use Rattle.cs_index.proofs.postings.ShortBytes.{first_mask}
use Rattle.cs_index.proofs.encoded_run.first_bits.Goals as goal

pub returns : goal.returns
returns c = first_mask c.args.v c.fits-v.0
