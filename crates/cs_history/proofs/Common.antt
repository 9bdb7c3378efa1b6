-- The names that most proofs cite, passed on from one place. Declares nothing.
pub use Rattle.cs_args.specs.declared.jobs.IndexJob.{IndexJob}
pub use Rattle.cs_args.specs.declared.jobs.Reply.{Reply}
pub use Rattle.cs_history.specs.History.{History, Update, all_given_paths, existing, files_found, files_of, index_of, kept_at, names_found, nothing, paths_of, walked_paths, ◌⊳◌}
pub use Rattle.cs_history.specs.HistoryIndex.{IsBuiltByJobs, indexed_names}
pub use Rattle.cs_history.specs.Jobs.{AreCleanable, IsFitting, after, after_done, given_paths, given_texts, has_no_path, history_after, reset_history, update_of}
pub use Rattle.cs_history.specs.Shards.{AreShards, files_of_both, searched_names, sorted_by_name}
pub use Rattle.cs_history.specs.WellFormed.{AreClean, IsHistory, IsStartIndex, IsUpdate}
pub use Rattle.cs_index.proofs.decoding.StringSections.{NoNul, section_read}
pub use Rattle.cs_index.specs.Encoding.{Entry, Files, IsString, ListEntry, PostingList, SectionBytes, encoding_of, four_bytes, three_bytes}
pub use Rattle.cs_index.specs.OpenedParts.{Parts, are_whole, files_in, files_read, ids_read, lists_in, paths_in, whole_ids}
pub use Rattle.cs_index.specs.Opening.{is_entry, is_list_index, is_name_index, is_names_section, is_section, parts_of, rises, split_of, texts_of}
pub use Rattle.cs_merge.proofs.DecodedContentLemmas.{Fits, all_files, content_decodes, decoded_names, decoded_once, decoded_set, from_list_all, set_ascends, set_fits}
pub use Rattle.cs_merge.proofs.MergeLemmas.{get-merge_files, newer_at, old_at}
pub use Rattle.cs_merge.specs.Content.{DecodesAsContent, EachFile, IsContent, LieUnder}
pub use Rattle.cs_merge.specs.Merge.{merge_files, merge_paths}
pub use Rattle.cs_tree.proofs.FoundLemmas.{found_under, get-found}
pub use Rattle.cs_tree.proofs.LeastLemmas.{covered-least, covered-union, least-union, least_is_unique, least_says}
pub use Rattle.cs_tree.proofs.PathSetLemmas.{alike, contains-union, entries_in_order, find-append, items_in_order, same_set, some_member, tied_is}
pub use Rattle.cs_tree.specs.Clean.{absolute, clean_path, elements, has_nul, longest_path, path_of, with_element, with_slashes}
pub use Rattle.cs_tree.specs.Cleaning.{clean_fault, is_normalized}
pub use Rattle.cs_tree.specs.Cover.{begins, covers, is_covered, least}
pub use Rattle.cs_tree.specs.Folders.{IsModelled, IsTree, ListsElements, child, is_element, last_element, lists}
pub use Rattle.cs_tree.specs.NameOrder.{bytes_cmp}
pub use Rattle.cs_tree.specs.PathSet.{Paths}
pub use Rattle.cs_tree.specs.Reachability.{descends, elements_under, found_at, is_excluded, is_reachable, reachable_files, reaches, read_item}
pub use Rattle.cs_tree.specs.Snapshot.{Item, Snapshot, bad, file, folder, item_at, missing}
pub use Rattle.cs_trigram.specs.Text.{first_broken, limits, skip, text_trigrams, too_many}
pub use Rattle.cs_trigram.specs.Trigram.{Ascends, closing_trigram, has, tri, trigram_sequence}
pub use Rattle.std.proofs.lemmas.Bool.{and_parts, both_ways, cases_Bool, cond_both, eqb-false, eqb-true, ltb-false, ltb-true, ne_eqb, not-true, or_cases, or_parts, true≢false}
pub use Rattle.std.proofs.lemmas.List.{drop_at, length-map, take_at}
pub use Rattle.std.specs.Cmp.Lexicographic.{bytes_decides, nat_list_cmp_total}
pub use Rattle.std.specs.FinMap.{find, is_sorted, put}
pub use Rattle.std.specs.List.{AllByRecursion, AllZip, fold, list_all, list_any, onto_first}
pub use Rattle.std.specs.Ordering.{eq_by_cmp, is_eq, is_lt}
pub use Rattle.std.specs.Path.{slash}
pub use Rattle.std.proofs.lemmas.Option.{none-some}
