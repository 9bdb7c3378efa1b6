-- The definitions that the contracts of this crate cite, passed on from one place. Declares nothing.
pub use Rattle.cs_syntax.specs.Matching.{MatchesBranch, MatchesSequence, MatchesSpan, member}
pub use Rattle.cs_syntax.specs.Members.{IsOnly}
pub use Rattle.cs_syntax.specs.Node.{tree_of}
pub use Rattle.cs_syntax.specs.NodeList.{trees_of}
pub use Rattle.cs_tree.specs.CountsAtMost.{CountsAtMost}
pub use Rattle.cs_prefilter.specs.Listed.{IsFull, IsLineStart, IsListFrom, NoNewlineFrom, newline}
pub use Rattle.cs_prefilter.specs.OffsetWork.{list_work, most_words, offset_work, word_work}
pub use Rattle.cs_prefilter.specs.Probe.{NoneFrom}
pub use Rattle.cs_prefilter.specs.Runs.{IsFollowed, RunEnds, RunsFollow}
pub use Rattle.cs_prefilter.specs.Sufficient.{HasEdge, MatchesPart}
pub use Rattle.cs_prefilter.specs.WordAt.{AreSufficient, HasWord, IsInLine, IsLine, IsPrefilterOf, IsSufficient, NoWordFrom, WordAt, with_newline}
pub use Rattle.cs_prefilter.specs.WordBuckets.{AreFound}
pub use Rattle.cs_prefilter.specs.WordSearch.{Finds}
pub use Rattle.cs_prefilter.specs.WordStop.{IsStop, NoneUnmarked, StopsBy, decided}
pub use Rattle.cs_prefilter.specs.Words.{HasWordOf}
