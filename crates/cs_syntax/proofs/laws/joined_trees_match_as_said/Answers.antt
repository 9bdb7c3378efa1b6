use Rattle.cs_syntax.proofs.JoiningLemmas.{matches_either, matches_whole_line}
use Rattle.cs_syntax.proofs.laws.joined_trees_match_as_said.Goals as goal

pub returns : goal.returns
returns c = record { either = matches_either; whole_line = matches_whole_line }
