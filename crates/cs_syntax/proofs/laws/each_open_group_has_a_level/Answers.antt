use Rattle.cs_syntax.proofs.ParseLemmas.{has_levels, never_without, alone}
use Rattle.cs_syntax.proofs.laws.each_open_group_has_a_level.Goals as goal

pub returns : goal.returns
returns c = record { one_more = has_levels; never = never_without; alone = alone }
