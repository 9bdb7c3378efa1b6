use Rattle.cs_listing.specs.Types.{file_types}
use Rattle.cs_listing.proofs.types.globs_of.Goals as goal

pub returns : goal.returns
unfolding file_types
returns c = c.globs_in.ensures
