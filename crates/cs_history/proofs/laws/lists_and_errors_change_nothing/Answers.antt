use Rattle.std.proofs.Common.{ap, refl}
use Rattle.cs_history.proofs.Common.{index_of}
use Rattle.cs_history.proofs.JobLemmas.{list_adds_nothing}
use Rattle.cs_history.proofs.laws.lists_and_errors_change_nothing.Goals as goal

pub returns : goal.returns
returns c = record {
  list = λ before job tree l. ap index_of (list_adds_nothing before job tree l);
  refused =
      λ before job tree fault. refl;
}
