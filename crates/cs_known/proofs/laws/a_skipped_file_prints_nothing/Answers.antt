use Rattle.cs_known.proofs.UnprintedLemmas.{prints_none}
use Rattle.cs_known.proofs.laws.a_skipped_file_prints_nothing.Goals as goal

pub returns : goal.returns
returns c = prints_none c.lines_are_printed_if_marked.ensures
