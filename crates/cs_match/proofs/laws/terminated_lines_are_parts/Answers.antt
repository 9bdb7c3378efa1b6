use Rattle.cs_match.proofs.LinesLemmas.{terminated_lines-line, terminated_lines-part}
use Rattle.cs_match.proofs.laws.terminated_lines_are_parts.Goals as goal

pub returns : goal.returns
returns c = record { cut = terminated_lines-line; last = terminated_lines-part }
