-- The definitions that the contracts of this crate cite, passed on from one place. Declares nothing.
pub use Rattle.cs_index.specs.Opening.{opening}
pub use Rattle.cs_match.specs.Cached.{IsCacheOf}
pub use Rattle.cs_match.specs.Lines.{lines, newline}
pub use Rattle.cs_match.specs.MatchingEnds.{matching_ends}
pub use Rattle.cs_match.specs.NoNewline.{HasNoNewline}
pub use Rattle.cs_match.specs.Skipped.{AreLinesBetween}
pub use Rattle.cs_syntax.specs.Parsing.{ParsesAs}
pub use Rattle.cs_trigram.specs.QueryOf.{IsQueryOf}
pub use Rattle.codesearch_c.specs.Budgets.{HasNoStop, IsCountWithinCode, IsLineFrom, IsNextWithinCode, IsStop, budget_of}
pub use Rattle.codesearch_c.specs.Building.{IsAddition, IsFinished, IsNewBuilder, IsPart, IsPathsRefusal, IsScanCode, nul_parts}
pub use Rattle.codesearch_c.specs.Codes.{build_code, done, index_code, list_code, memory, merge_code, misuse, pattern_code, reason_code}
pub use Rattle.codesearch_c.specs.Copies.{IsCopy, IsEntryCopy, IsPage, opening_code}
pub use Rattle.codesearch_c.specs.MatchingLines.{AreListedTo, ForEachTest, IsFirstLine, IsListing}
pub use Rattle.codesearch_c.specs.Merging.{IsMergeOf, IsMergeOfOpened}
pub use Rattle.codesearch_c.specs.Patterns.{IsAnswered, IsCandidatesCode, IsCompiled, IsCountCode, IsLinesCode, IsMatchCode, IsMisuse, IsNextCode, IsPageCode, IsRefusal, Keeps}
pub use Rattle.codesearch_c.specs.Reports.{IsReportCode, style_of}
pub use Rattle.codesearch_c.specs.Slots.{OnBuilder, OnBytes, OnPattern, is_filled}
pub use Rattle.codesearch_c.specs.Spans.{IsNewlinesCode, IsSpanCode, IsSpansCode}
