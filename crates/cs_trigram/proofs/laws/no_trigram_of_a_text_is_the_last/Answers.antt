use Rattle.cs_trigram.proofs.RuleLemmas.{tri_below}
use Rattle.cs_trigram.proofs.laws.no_trigram_of_a_text_is_the_last.Goals as goal

pub returns : goal.returns
returns c = tri_below
