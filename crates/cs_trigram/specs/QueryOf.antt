-- The query by which a pattern is searched.
-- docs/PATTERNS.md, "Queries".
use Rattle.std.specs.Prelude.{◌≡◌, Bool, true, false}
use Rattle.cs_syntax.specs.Matching.{Tree}
use Rattle.cs_trigram.specs.Query.{LosesNoLine, IsSmall}
use Rattle.cs_trigram.specs.ExactRuns.{IsSelective}
use Rattle.cs_trigram.specs.MayMatch.{MentionsTrigramsOf}
use Rattle.cs_trigram.specs.declared.queries.Query.{Query}
use Rattle.cs_trigram.specs.declared.queries.Query.TheVariants.{All}

-- With `-brute` every file matches the query. Otherwise the query loses no line that the pattern matches, is selective,
-- mentions only trigrams of texts that the pattern may match, and is small.
abbrev pub IsQueryOf : Bool → Tree → Query → Type 0
IsQueryOf true pattern query = query ≡ All
IsQueryOf false pattern query =
    LosesNoLine query pattern × IsSelective query pattern × MentionsTrigramsOf query pattern × IsSmall query pattern
