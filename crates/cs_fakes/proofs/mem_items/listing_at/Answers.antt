use Rattle.std.proofs.Common.{rules}
use Rattle.cs_fakes.proofs.mem_items.listing_at.Goals as goal

pub returns-in-Some : goal.returns-in-Some
returns-in-Some c = search rules
