use Rattle.std.proofs.Common.{length, sym, ap, ◌∙◌}
use Rattle.cs_match.proofs.PositionSetLemmas.{length-positions_of}
use Rattle.cs_match.proofs.position_set.PositionSet.len.Goals as goal

pub returns : goal.returns
returns c = sym (length-positions_of _ _) ∙ ap length c.self.view_is
