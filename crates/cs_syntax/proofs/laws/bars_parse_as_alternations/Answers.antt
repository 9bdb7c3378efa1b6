use Rattle.cs_syntax.proofs.BarredPatternLemmas.{bar_parses}
use Rattle.cs_syntax.proofs.laws.bars_parse_as_alternations.Goals as goal

pub returns : goal.returns
returns c = bar_parses
