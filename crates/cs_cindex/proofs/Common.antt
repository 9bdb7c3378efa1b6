-- The names that most proofs cite, passed on from one place. Declares nothing.
pub use Rattle.cs_args.specs.declared.fault.CindexFault.{CindexFault}
pub use Rattle.cs_args.specs.declared.fault.CindexFault.TheVariants.{BadIndex, BadPath, Memory, NoIndex, TooLarge, Unsorted, Write}
pub use Rattle.cs_args.specs.declared.fault.FileFault.TheVariants.{Denied, Failed, Unnamed}
pub use Rattle.cs_args.specs.declared.jobs.IndexJob.{IndexJob}
pub use Rattle.cs_args.specs.declared.jobs.Reply.{Reply}
pub use Rattle.cs_args.specs.declared.jobs.Reply.TheVariants.{Done, Refused}
pub use Rattle.cs_cindex.specs.Diagnostics.{AreLines, AreLinesIn, BeginLinesIn, Diagnostic, PrintsLines, PrintsLinesPrefix, failures_in, fault_entry_line, faulted, finding_line, is_failure_line, lines_for, opening_line, skipped, text_of, walk_fault}
pub use Rattle.cs_cindex.specs.Files.{AreAbove, AreFileLinesIn, AreTextsIn, AreTooLargeIn, BeginFileLinesIn, HaveNamesOf, IsIndexingFault, PrintsFiles, PrintsFilesPrefix, are_storable, texts_at}
pub use Rattle.cs_cindex.specs.JobPaths.{AreCleanFault, AreCleaned, IsCleanFault, starts}
pub use Rattle.cs_cindex.specs.Merges.{IsMergeRefusal, MergesShort, MergesTo, refusal_of}
pub use Rattle.cs_cindex.specs.Next.{HasWholeLists, IsIndex, IsIndexOf, IsNext, IsNextLong, IsOwnIndex, IsReducedIndex, IsTreeTooLarge, alone, base_paths, merged, next_index, opening_merge, opening_paths, paths_of_job}
pub use Rattle.cs_cindex.specs.FitTables.{IsFit, IsFitFor}
pub use Rattle.cs_cindex.specs.Outcomes.{AnswersFor, IsStepTo, RightAfter, WalkPrintsFor}
pub use Rattle.cs_cindex.specs.Output.{AreTooLarge, IsMidway, IsSilent, JobPrintsBy, JobTree, Output, UnreadPrints, WalkPrints, WalkPrintsPrefix, WalkPrintsSome, after, before, index_lines, is_failed_write, job_tree, list_lines, output, path_lines, paths_lines}
pub use Rattle.cs_cindex.specs.Refusals.{EarlyOr, HasCause, IsDamaged, IsLateFault, IsOutputFault, IsWalkFault, base, base_fault, early_fault, early_fault_of, early_walk_fault, list_fault, opening_fault, unfit_parts_fault}
pub use Rattle.cs_cindex.specs.Steps.{IsStep, IsWholeStep, Outputs, RightAll, State, Steps, job_trees, state}
pub use Rattle.cs_cindex.specs.Verdicts.{IsVerdict, IsVerdictIn, PrintsAll, Verdict, added_entries, is_failed_verdict, noted_entries, noted_line, verdict_line, verdict_trigrams}
pub use Rattle.cs_history.proofs.HistoryLemmas.{clean_paths, has_start_index, history_content, history_lies, index_is, least_twice, walk_content, walk_lies}
pub use Rattle.cs_history.specs.Headline.{Indexes}
pub use Rattle.cs_history.specs.History.{History, Update, all_given_paths, existing, files_found, files_of, index_of, nothing, paths_of, walked_paths, ◌⊳◌}
pub use Rattle.cs_history.specs.JobKinds.{JobKind, Walks, clears, job_kind, lists, walks}
pub use Rattle.cs_history.specs.Jobs.{AreCleanable, IsFitting, after_done, given_paths, given_texts, has_no_path, history_after, update_of}
pub use Rattle.cs_history.specs.Premises.{IsShort, Premises, modelled_snapshot}
pub use Rattle.cs_history.specs.Replies.{IsFirstBad, IsLong, IsRightReply, IsTooLarge, NeedsIndex, first_bad}
pub use Rattle.cs_history.specs.WellFormed.{AreClean, IsHistory, IsMergeable, IsStartIndex}
pub use Rattle.cs_index.proofs.names.ReducedPaths.{reduced_is, reduced_up, tail_up}
pub use Rattle.cs_index.specs.Built.{Built, IsBuilt, are_paths, are_reduced, is_above, is_storable}
pub use Rattle.cs_index.specs.Encoding.{Entry, Files, IsString, encoding_of, names_of}
pub use Rattle.cs_index.specs.OpenedParts.{Parts, are_whole, files_in, paths_in}
pub use Rattle.cs_index.specs.Stored.{StandsIn, StoredParts}
pub use Rattle.cs_index.specs.Tables.{OpensAs, OpensAsTables, TableParts}
pub use Rattle.cs_index.specs.declared.fault.IndexFault.{IndexFault}
pub use Rattle.cs_merge.proofs.DecodedContentLemmas.{from_list_all, map_of_entries, set_of_items}
pub use Rattle.cs_tree.specs.declared.output.Sent.{Sent}
pub use Rattle.cs_tree.proofs.GrowsLemmas.{Grows-chain, Grows-same, leaves_flushed}
pub use Rattle.cs_tree.proofs.PathSetLemmas.{alike, entries_in_order, same_set, tied_is, tied_same}
pub use Rattle.cs_tree.proofs.PrefixLemmas.{prefix_all, prefix_left, prefix_none, prefix_right}
pub use Rattle.cs_tree.proofs.ReadCountLemmas.{reads_nothing, reads_on}
pub use Rattle.cs_tree.proofs.RequestLemmas.{requests_none, requests_on}
pub use Rattle.cs_tree.specs.Clean.{clean_path, longest_path}
pub use Rattle.cs_tree.specs.Cleaning.{clean_fault, is_normalized}
pub use Rattle.cs_tree.specs.Cover.{is_covered, least}
pub use Rattle.cs_tree.specs.Failures.{count_if}
pub use Rattle.cs_tree.specs.Folders.{IsModelled, IsTree, ListsElements, are_distinct, child, is_element, stem_of}
pub use Rattle.cs_tree.specs.NameOrder.{bytes_cmp}
pub use Rattle.cs_tree.specs.NamesAscending.{are_ascending}
pub use Rattle.cs_tree.specs.PathSet.{Paths}
pub use Rattle.cs_tree.specs.Reachability.{is_reachable, reachable_files, read_item}
pub use Rattle.cs_tree.specs.Reads.{ReadsWithin}
pub use Rattle.cs_tree.specs.Sinks.{CountsOne, Grows, GrowsFlushed, SinkModel}
pub use Rattle.cs_tree.specs.Snapshot.{Item, Snapshot, cut, file, folder, item_at}
pub use Rattle.cs_tree.specs.TakesPrefix.{MayEnd, TakesPrefix}
pub use Rattle.cs_tree.specs.Walks.{AreWithinPathLimit, FaultEntry, Finds, FindsIn, Reaches, RequestsWithin, are_alone, failures_walked, fault_among, fault_entry, faults_walked, is_among, is_failed_call, is_file, listed, named, names_walked}
pub use Rattle.cs_tree.specs.declared.fault.IoFault.{IoFault}
pub use Rattle.std.proofs.lemmas.Bool.{and_from, and_parts, cases_Bool, cond_both, eq-eqb, eqb-false, eqb-true, false_from_ne_true, lt-ltb, ltb-false, ne_eqb, not-true, not_from_false, or_cases, or_left, or_parts, or_right, true≢false}
pub use Rattle.std.proofs.lemmas.List.{get_or-map, get_or_default, length-map, length-take-le, map-append, take-append-drop, take_all, take_at, take_more, take_more_set}
pub use Rattle.std.proofs.lemmas.Result.{err_from_is_err_and}
pub use Rattle.std.specs.Cmp.Lexicographic.{bytes_decides, nat_list_cmp_total}
pub use Rattle.std.specs.FinMap.Entries.{below_all, find}
pub use Rattle.std.specs.List.{AllByRecursion, AllZip, cons_option, list_all, list_any, position_or_len, zip}
pub use Rattle.std.specs.Option.{option_or}
pub use Rattle.std.specs.Ordering.{eq_by_cmp, is_lt}
pub use Rattle.std.specs.Result.{IsOkAnd}
pub use Rattle.std.specs.declared.alloc.Global.{Global}
pub use Rattle.std.proofs.lemmas.Option.{none-some}
pub use Rattle.cs_history.proofs.MergedHistoryLemmas.{kept_decoded}
