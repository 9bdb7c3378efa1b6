use Rattle.cs_known.proofs.UnprintedLemmas.{path_prints_none}
use Rattle.cs_known.proofs.laws.a_skipped_path_prints_nothing.Goals as goal

pub returns : goal.returns
returns c = path_prints_none c.lines_are_printed_if_marked.ensures
