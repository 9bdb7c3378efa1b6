use Rattle.cs_search.proofs.JobIndexLemmas.{decided_alike, printed_by_cgrep, promised_by_cgrep}
use Rattle.cs_search.specs.Printed.{PrintsAnswer}
use Rattle.cs_search.proofs.laws.searches_are_those_of_cgrep.Goals as goal

pub returns : goal.returns
returns c = record {
  decided = λ job names like has_match keeps same decides_search. decided_alike job names like same has_match keeps decides_search;
  files = λ job names like has_match tree input same. printed_by_cgrep job names like same has_match tree input;
  promised = λ job index tree input outputs answer. promised_by_cgrep job index tree input
      (λ printed. PrintsAnswer printed outputs answer);
}
