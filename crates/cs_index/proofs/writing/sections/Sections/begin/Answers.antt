use Rattle.std.proofs.Common.{arith}
use Rattle.std.proofs.lemmas.Grind.{common_steps}
use Rattle.cs_index.proofs.writing.sections.Sections.begin.Goals as goal

pub begin_next-requires-clause-later : goal.begin_next-requires-clause-later
begin_next-requires-clause-later c = grind (arith, common_steps)

pub begin_first-requires-clause-ids : goal.begin_first-requires-clause-ids
begin_first-requires-clause-ids c =
    record { below = c.requires.below; stream = c.requires.stream; some = c.requires.some; named = c.requires.named }

pub begin_next-requires-clause-ids : goal.begin_next-requires-clause-ids
begin_next-requires-clause-ids c =
    record { below = c.requires.below; stream = c.requires.stream; some = c.requires.some; named = c.requires.named }
