use Rattle.cs_search.proofs.CandidateLemmas.{with_a_line, with_exact_runs}
use Rattle.cs_search.proofs.laws.candidates_lie_between.Goals as goal

pub returns : goal.returns
returns c = record {
  with_match = λ query pattern parts id has_match bytes within. with_a_line query pattern parts id within has_match bytes;
  exact_runs = λ query pattern parts id within. with_exact_runs query pattern parts id within;
}
