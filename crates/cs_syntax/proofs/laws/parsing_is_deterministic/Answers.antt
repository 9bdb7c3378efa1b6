use Rattle.cs_syntax.proofs.DeterminismLemmas.{parses_once}
use Rattle.cs_syntax.proofs.laws.parsing_is_deterministic.Goals as goal

pub returns : goal.returns
returns c = λ text fold. parses_once text fold
