use Rattle.cs_history.proofs.IndexLemmas.{paths_again, files_again}
use Rattle.cs_history.proofs.laws.job_without_paths.Goals as goal

pub returns : goal.returns
returns c = record { paths = paths_again; files = files_again }
