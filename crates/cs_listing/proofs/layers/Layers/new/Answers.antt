use Rattle.std.proofs.Common.{ap}
use Rattle.cs_listing.specs.Models.{folders_of}
use Rattle.cs_listing.proofs.layers.Layers.new.Goals as goal

pub returns-clause-folders : goal.returns-clause-folders
returns-clause-folders c = ap folders_of c.new.ensures.items
