use Rattle.cs_match.proofs.SpanLemmas.{unique}
use Rattle.cs_match.proofs.laws.first_spans_are_unique.Goals as goal

pub returns : goal.returns
returns c = unique
