use Rattle.cs_match.proofs.SpanLemmas.{passes}
use Rattle.cs_match.proofs.laws.passes_find_ends.Goals as goal

pub returns : goal.returns
returns c = passes
