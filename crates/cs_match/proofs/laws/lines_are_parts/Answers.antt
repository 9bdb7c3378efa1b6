use Rattle.cs_match.proofs.LinesLemmas.{lines-line, lines-last, lines-none}
use Rattle.cs_match.proofs.laws.lines_are_parts.Goals as goal

pub returns : goal.returns
returns c = record { cut = lines-line; last = lines-last; none = lines-none }
