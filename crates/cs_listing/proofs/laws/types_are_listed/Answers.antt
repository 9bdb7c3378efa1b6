use Rattle.std.proofs.Common.{refl}
use Rattle.cs_listing.specs.Types.{file_types}
use Rattle.cs_listing.proofs.laws.types_are_listed.Goals as goal

pub returns : goal.returns
unfolding file_types
returns c = refl
