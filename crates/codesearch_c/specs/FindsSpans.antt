-- What a held pattern has for the search of spans.
use Rattle.std.specs.Prelude.{Option, IsSomeAnd}
use Rattle.cs_syntax.specs.Matching.{Tree}
use Rattle.cs_match.specs.Passes.{IsPassOf}
use Rattle.cs_match.specs.SameLines.{MatchSameSpans}
use Rattle.cs_match.specs.declared.spans.pass.Pass.{Pass}

-- the program matches the spans of the pattern, and the memory of its passes is there
pub record FindsSpans (program pattern : Tree) (memory : Option Pass) : Type 0 where
  pub spans : MatchSameSpans program pattern
  pub pass : IsSomeAnd memory (IsPassOf program)
