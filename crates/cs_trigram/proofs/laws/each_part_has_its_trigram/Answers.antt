use Rattle.cs_trigram.specs.Trigram.{trigram_sequence}
use Rattle.cs_trigram.proofs.SetLemmas.{ascends_set}
use Rattle.cs_trigram.proofs.LawLemmas.{has-each, has-only}
use Rattle.cs_trigram.proofs.laws.each_part_has_its_trigram.Goals as goal

pub returns-clause-ascend : goal.returns-clause-ascend
returns-clause-ascend c = λ bytes. ascends_set (trigram_sequence bytes)

pub returns-clause-parts : goal.returns-clause-parts
returns-clause-parts c = λ before after a b c'. has-each before after a b c'

pub returns-clause-only : goal.returns-clause-only
returns-clause-only c = has-only
