use Rattle.cs_syntax.proofs.CharStepLemmas.{taken_matches}
use Rattle.cs_syntax.proofs.laws.characters_are_found_byte_by_byte.Goals as goal

pub returns : goal.returns
returns c = λ cuts line ranges enter j divide le. taken_matches cuts line ranges divide enter j le
