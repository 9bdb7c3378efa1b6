use Rattle.std.proofs.Common.{rules}
use Rattle.cs_index.proofs.reading.section_offsets.rise.Goals as goal

pub returns-then-d-e-clause-value : goal.returns-then-d-e-clause-value
returns-then-d-e-clause-value c = search rules
