use Rattle.cs_trigram.proofs.LawLemmas.{has-part_of}
use Rattle.cs_trigram.proofs.laws.a_part_has_no_other_trigram.Goals as goal

pub returns : goal.returns
returns c = has-part_of
