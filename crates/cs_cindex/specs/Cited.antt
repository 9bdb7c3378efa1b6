-- The definitions that the contracts of this crate cite, passed on from one place. Declares nothing.
pub use Rattle.cs_history.specs.Headline.{Indexes}
pub use Rattle.cs_history.specs.Jobs.{HasAbsoluteFolder}
pub use Rattle.cs_history.specs.Replies.{first_bad}
pub use Rattle.cs_index.specs.Built.{are_paths, is_above}
pub use Rattle.cs_index.specs.Encoding.{names_of}
pub use Rattle.cs_index.specs.LeastLength.{least_length}
pub use Rattle.cs_index.specs.Tables.{OpensAs, OpensAsTables}
pub use Rattle.cs_merge.specs.SortedNames.{AreIndexNames}
pub use Rattle.cs_tree.specs.Clean.{clean_path}
pub use Rattle.cs_tree.specs.Cleaning.{clean_fault}
pub use Rattle.cs_tree.specs.Cover.{is_absolute}
pub use Rattle.cs_tree.specs.FailureCount.{count_after}
pub use Rattle.cs_tree.specs.Folders.{are_distinct}
pub use Rattle.cs_tree.specs.KeepsStore.{KeepsStore}
pub use Rattle.cs_tree.specs.NamesAscending.{are_ascending}
pub use Rattle.cs_tree.specs.Walks.{AreWithinPathLimit, fault_entry}
pub use Rattle.cs_cindex.specs.BaseReads.{MergesOver, OnlyReads, OpensBase, ReplacesBase}
pub use Rattle.cs_cindex.specs.Diagnostics.{fault_entry_line, faulted, skipped, text_of}
pub use Rattle.cs_cindex.specs.Effects.{WritesOut, effects}
pub use Rattle.cs_cindex.specs.FitTables.{IsFit}
pub use Rattle.cs_cindex.specs.IndexedFiles.{FinishesIndex, IndexesFiles, NotesFile}
pub use Rattle.cs_cindex.specs.JobPaths.{AreCleanFault, AreCleaned, IsCleanFault, walk_starts}
pub use Rattle.cs_cindex.specs.KeepsOldIndex.{KeepsOldIndex}
pub use Rattle.cs_cindex.specs.KeepsTree.{KeepsTree, KeepsTrees}
pub use Rattle.cs_cindex.specs.Listed.{ListsOver, ListsPaths}
pub use Rattle.cs_cindex.specs.Merges.{refusal_of}
pub use Rattle.cs_cindex.specs.Next.{IsReducedIndex}
pub use Rattle.cs_cindex.specs.OldIndex.{IsIndex}
pub use Rattle.cs_cindex.specs.Outcomes.{IsStepTo, IsWholeStepTo, RightAfter, reply_of}
pub use Rattle.cs_cindex.specs.Output.{is_failed_write, job_tree, output, path_lines}
pub use Rattle.cs_cindex.specs.ReadsFiles.{ReadsFile, ReadsFiles}
pub use Rattle.cs_cindex.specs.Refusals.{base, base_fault, early_walk_fault}
pub use Rattle.cs_cindex.specs.RunsJob.{RunsJob}
pub use Rattle.cs_cindex.specs.Sends.{Sends, SendsOver, SendsUpdate}
pub use Rattle.cs_cindex.specs.Steps.{IsWholeStep, LeavesFlushed, RightAll, Steps, job_trees, outputs, state}
pub use Rattle.cs_cindex.specs.Verdicts.{HasTrigramsOnce, IsVerdictIn, count_read}
pub use Rattle.cs_cindex.specs.WalkAnswers.{AnswersWalk, IndexesWalk, WalksOver}
