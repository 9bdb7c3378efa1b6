-- The definitions that the contracts of this crate cite, passed on from one place. Declares nothing.
pub use Rattle.cs_args.specs.FileFaults.{fault_line_of}
pub use Rattle.cs_index.specs.NameReading.{ReadsNames}
pub use Rattle.cs_index.specs.OpenedParts.{Parts}
pub use Rattle.cs_index.specs.Stored.{StandsIn}
pub use Rattle.cs_lines.specs.Findings.{SearchesLines}
pub use Rattle.cs_lines.specs.Work.{Takes, TakesRead, input_work, line_weight}
pub use Rattle.cs_match.specs.Lines.{terminated_lines}
pub use Rattle.cs_match.specs.Skipping.{AreWholeLines}
pub use Rattle.cs_syntax.specs.Matching.{Tree}
pub use Rattle.cs_syntax.specs.Parsing.{ParsesAs}
pub use Rattle.cs_syntax.specs.Weight.{max_weight, weight}
pub use Rattle.cs_tree.specs.ConsumesAtMost.{ConsumesAtMost}
pub use Rattle.cs_tree.specs.FailureCount.{count_after}
pub use Rattle.cs_tree.specs.Failures.{count_if}
pub use Rattle.cs_tree.specs.KeepsStore.{KeepsStore}
pub use Rattle.cs_tree.specs.Sinks.{CountsOne, GrowsFlushed}
pub use Rattle.cs_tree.specs.TakesPrefix.{EndsAfter, MayEnd}
pub use Rattle.cs_tree.specs.WritesBytes.{WritesBytes}
pub use Rattle.cs_trigram.specs.QueryOf.{IsQueryOf}
pub use Rattle.cs_search.specs.Cgrep.{IsGrep, PrintsFaultsOf, cgrep_printed}
pub use Rattle.cs_search.specs.Csearch.{AreAccepted, IsSound, file_text}
pub use Rattle.cs_search.specs.GrepFaults.{CountsBoth, IsSearchFault, answer_of, has_read_failed, is_grep_failure, streamed_as}
pub use Rattle.cs_search.specs.GrepReports.{IsReportedBy, ReportsBy, text_report}
pub use Rattle.cs_search.specs.IndexSearch.{AreKept, DecidesNames, FileRefused, IsFileProgram, file_pattern_fault, matcher_tree, names_at}
pub use Rattle.cs_search.specs.InputReport.{input_report, max_searched}
pub use Rattle.cs_search.specs.Plans.{AreSelected, IsPlan, RefusesPlan, SelectsOrRefuses}
pub use Rattle.cs_search.specs.Printed.{search_outputs}
pub use Rattle.cs_search.specs.Programs.{IsProgramOf, RefusesPattern}
pub use Rattle.cs_search.specs.Refusals.{SilentOnError, has_write_failed}
pub use Rattle.cs_search.specs.SearchEffects.{EndsBoth, HasNotBegun, SearchesTree}
pub use Rattle.cs_search.specs.Searched.{IsSearch}
pub use Rattle.cs_search.specs.SearchedBy.{SearchesBy}
pub use Rattle.cs_search.specs.Searcher.{CountsSearchFault, PrintsAllFaults, PrintsResult, file_shown, files_shown, input_shown}
pub use Rattle.cs_search.specs.Selections.{HasSelected, IfStands, IsBlockOf, PushesMatching, ReadsBlock, Selects, SelectsMore}
pub use Rattle.cs_search.specs.StoredSearch.{IfRead, IsOpened, IsUnopened}
