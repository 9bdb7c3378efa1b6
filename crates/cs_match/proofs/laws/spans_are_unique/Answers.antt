use Rattle.cs_match.proofs.SpanListLemmas.{all_unique, begin_all}
use Rattle.cs_match.proofs.laws.spans_are_unique.Goals as goal

pub returns-clause-all : goal.returns-clause-all
returns-clause-all c = all_unique

pub returns-clause-first : goal.returns-clause-first
returns-clause-first c = begin_all
