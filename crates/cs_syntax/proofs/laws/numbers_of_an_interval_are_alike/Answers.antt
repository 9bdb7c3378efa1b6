use Rattle.cs_syntax.proofs.CutLemmas.{divided, has_char_floor}
use Rattle.cs_syntax.proofs.laws.numbers_of_an_interval_are_alike.Goals as goal

pub returns-clause-divided : goal.returns-clause-divided
returns-clause-divided c = divided

pub returns-clause-members : goal.returns-clause-members
returns-clause-members c = λ cuts ranges n divide. has_char_floor cuts ranges divide n
