use Rattle.cs_history.proofs.Common.{all_given_paths}
use Rattle.cs_history.proofs.HistoryLemmas.{clean_paths, least_twice, clean_walked, reduced_walked}
use Rattle.cs_history.proofs.laws.paths_are_clean_and_reduced.Goals as goal

pub returns : goal.returns
returns c = record {
  clean = clean_paths;
  reduced = λ history. least_twice (all_given_paths history);
  walked_clean =
      clean_walked;
  walked_reduced = reduced_walked;
}
