-- The definitions that the contracts of this crate cite, passed on from one place. Declares nothing.
pub use Rattle.cs_match.specs.LastPart.{last_line}
pub use Rattle.cs_match.specs.Lines.{lines, newline, terminated_lines}
pub use Rattle.cs_match.specs.MatchingEnds.{matching_ends}
pub use Rattle.cs_match.specs.NoNewline.{HasNoNewline}
pub use Rattle.cs_match.specs.Skipped.{AreLinesBetween}
pub use Rattle.cs_match.specs.Skipping.{AreWholeLines, IsLineAfter, NoneMatch}
pub use Rattle.cs_tree.specs.Failures.{count_if}
pub use Rattle.cs_lines.specs.Blocks.{IsFirstLines, IsNext}
pub use Rattle.cs_lines.specs.Contexts.{is_open, one_less, row_at}
pub use Rattle.cs_lines.specs.Counts.{CountsBlock, CountsPending, CountsStream, CountsText, has_failed_count, is_enough, limit_by}
pub use Rattle.cs_lines.specs.Findings.{Finding, HasMatchBy, KeepsSearch, SearchesLines, StopsBySpans, Tests, TestsMatches, has_stopped, listed_ends}
pub use Rattle.cs_lines.specs.Forms.{Span, column_part, dyed, first_column, match_bytes, name_part, number_part, painted, painted_from, prefix_of, row_bytes, separated, separator, whole_bytes}
pub use Rattle.cs_lines.specs.Ordered.{AreOrdered, pair_of, pairs}
pub use Rattle.cs_tree.specs.SinkOutputs.{Keeps, Prints, given}
pub use Rattle.cs_lines.specs.Printing.{needs_spans, row_of}
pub use Rattle.cs_lines.specs.Project.{searched_as}
pub use Rattle.cs_lines.specs.Reads.{is_failure}
pub use Rattle.cs_lines.specs.Scans.{BeginsMarks, BeginsRows, Fits, IsMarkShown, IsPassed, IsPlaced, Marks, Searches, SearchesLast, rows_at}
pub use Rattle.cs_lines.specs.Shown.{at_most, between, binary_groups, count_groups, count_of, counted_bytes, following, gap, has_groups, heading, is_binary, is_wanted, joined, line_gap, line_groups, name_bytes, name_groups, text_rows, total_groups}
pub use Rattle.cs_lines.specs.Spacing.{IsPrinted, KeepsScan, ShowsRow, before_row, fresh_rows, has_numbers, is_plain, opening_of, printed_by, progress_of}
pub use Rattle.cs_lines.specs.Streamed.{EndsBy, ReadsToEnd, is_failed, is_whole}
pub use Rattle.cs_lines.specs.Streams.{BeginsBytes, BeginsFile, BeginsInput, BeginsLines, BeginsText, EndsAt, FindsInFile, IsCounted, IsReady, IsTrimmed, PrintsFile, ShowsBegun, ShowsLines, ShowsSome, ShowsText, StreamsInput, StreamsLines, StreamsRows, StreamsText, StreamsTotal, has_failed_read, no_held, FailsAlone}
pub use Rattle.cs_lines.specs.Work.{Takes, TakesRead, file_work, has_context, input_work, line_weight, line_work, part_work, pending_work, search_work, searched_work, shown_work, walks}
