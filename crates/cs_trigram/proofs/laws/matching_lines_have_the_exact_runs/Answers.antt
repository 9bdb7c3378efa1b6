use Rattle.cs_trigram.proofs.ExactRunLemmas.{match_has_exact_runs}
use Rattle.cs_trigram.proofs.laws.matching_lines_have_the_exact_runs.Goals as goal

pub returns : goal.returns
returns c = λ tree line set found known. match_has_exact_runs line set known tree found.0 found.1 found.4
