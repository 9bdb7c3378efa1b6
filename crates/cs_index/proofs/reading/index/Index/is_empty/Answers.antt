use Rattle.std.proofs.Common.{ap, nat_eq}
use Rattle.cs_index.proofs.reading.index.Index.is_empty.Goals as goal

pub returns : goal.returns
returns c = ap (λ n. nat_eq n 0) c.len.ensures
