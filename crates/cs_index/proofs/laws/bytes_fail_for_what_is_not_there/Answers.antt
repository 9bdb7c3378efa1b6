use Rattle.cs_index.proofs.decoding.FirstFailure.{fails_so, so_fails}
use Rattle.cs_index.proofs.laws.bytes_fail_for_what_is_not_there.Goals as goal

pub returns : goal.returns
returns c = λ bytes fault small. (fails_so bytes fault small, so_fails bytes fault small)
