use Rattle.std.proofs.Common.{refl}
use Rattle.cs_history.proofs.MergedHistoryLemmas.{kept_decoded}
use Rattle.cs_history.proofs.laws.histories_may_begin_with_an_index.Goals as goal

pub returns : goal.returns
returns c = record { index = λ bytes parts. refl; paths = λ bytes parts. refl; files = kept_decoded }
