use Rattle.cs_lines.proofs.LawLemmas.{printed_if_marked}
use Rattle.cs_lines.proofs.laws.lines_are_printed_if_marked.Goals as goal

pub returns : goal.returns
returns c = printed_if_marked
