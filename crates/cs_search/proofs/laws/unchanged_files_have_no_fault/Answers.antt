use Rattle.cs_search.proofs.JobIndexLemmas.{unchanged_has_no_error}
use Rattle.cs_search.proofs.laws.unchanged_files_have_no_fault.Goals as goal

pub returns : goal.returns
returns c = unchanged_has_no_error
