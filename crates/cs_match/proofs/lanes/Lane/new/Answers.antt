use Rattle.std.proofs.Common.{refl}
use Rattle.cs_match.proofs.LaneLemmas.{IsLane-new}
use Rattle.cs_match.proofs.lanes.Lane.new.Goals as goal

pub returns-clause-lane : goal.returns-clause-lane
returns-clause-lane c = IsLane-new c.args.table c.requires c.args.from _ refl c.start.ensures refl
