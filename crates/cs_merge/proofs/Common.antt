-- The names that most proofs cite, passed on from one place. Declares nothing.
pub use Rattle.cs_index.proofs.decoding.DecodingIsUnique.{decoding_is_unique, names_tail}
pub use Rattle.cs_index.proofs.writer.BuilderAdd.{ascends_push, names_entries}
pub use Rattle.cs_index.specs.AscendingIds.{AscendWithin, BeginsFrom, ids_onward, max_ids, next_after}
pub use Rattle.cs_index.specs.Built.{are_paths, are_reduced, is_above, is_before, is_storable}
pub use Rattle.cs_index.specs.Encoding.{Entry, Files, IsString, ListEntry, PostingList, encoding_of, layout, names_of, posting_list_bytes, postings_of, sections_of, three_bytes}
pub use Rattle.cs_index.specs.Gathering.{list_of}
pub use Rattle.cs_index.specs.ListReading.{BytesAt, HasList, known_ids, list_in}
pub use Rattle.cs_index.specs.Tables.{TableParts}
pub use Rattle.cs_index.specs.OpenedParts.{Parts, are_whole, files_in, files_read, ids_read, lists_in, paths_in, whole_ids}
pub use Rattle.cs_index.specs.PostingLists.{Ids, damage, entries_of, read_ids, set_at}
pub use Rattle.cs_index.specs.Postings.{IsListFault, ids_given, nothing_read}
pub use Rattle.cs_index.specs.ValidParts.{AreValidParts}
pub use Rattle.cs_index.specs.Written.{AllBelow, Written, entries_written, ids_of, last_ids, with_id, with_last_id, with_last_ids, with_sent, with_written_id, with_written_name}
pub use Rattle.cs_index.specs.declared.fault.IndexFault.{IndexFault}
pub use Rattle.cs_merge.specs.Content.{DecodesAsContent, EachFile, HasContent, IsContent, LieUnder, Opens}
pub use Rattle.cs_merge.specs.IdMap.{AreByRank, AreDisjoint, AreDropped, AreIdMaps, AreMapped, AreMappedLists, AreMergedNames, AreNamesSoFar, AreRunEnds, AreScattered, IsIncreasing, IsInjective, IsMapped, IsMergingNames, IsOfEither, IsRun, NewIds, StayBelow, kept, new, new_id, new_ids_of}
pub use Rattle.cs_merge.specs.ListMerge.{AreDistinctIds, AreLeft, AreMergedLists, BeginFrom, IsMappedPostings, IsBelow, IsMergedList, IsRunOf, IsWrittenBelow, list_ids, list_trigram, lower_of, position_after, without_number}
pub use Rattle.cs_merge.specs.OldLists.{AreAllMerged, AreRead, IsMergingLists, IsStored, known_parts, old_ids}
pub use Rattle.cs_merge.specs.ListsFault.{AreTooLong, IsListsFault, are_whole_from, rest_fault}
pub use Rattle.cs_merge.specs.Merge.{merge_files, merge_paths}
pub use Rattle.cs_merge.specs.MergeResult.{IsMergeFault, IsMerged, damaged, long, refused, uncovered}
pub use Rattle.cs_merge.specs.Mergeable.{AreTested, both_whole, merge_index}
pub use Rattle.cs_merge.specs.SortedNames.{AreIndexNames, AreSortedNames, AreTestedNames, SortedNames, id_in_order, id_of_rank, names_in_order, sorted_names}
pub use Rattle.cs_merge.specs.declared.fault.MergeFault.{MergeFault}
pub use Rattle.cs_tree.proofs.NameOrderLemmas.{before_trans}
pub use Rattle.cs_tree.proofs.PathSetLemmas.{alike, contains-union, entries_in_order, find-append, member_satisfies, same_set, some_member, tied_is, tied_same}
pub use Rattle.cs_tree.proofs.ReduceLemmas.{contains-from_list, items_ascend, ordered_items, true_from_T}
pub use Rattle.cs_tree.specs.Cover.{covers, is_among, is_covered, least}
pub use Rattle.cs_tree.specs.Folders.{are_distinct}
pub use Rattle.cs_tree.specs.NameOrder.{bytes_cmp}
pub use Rattle.cs_tree.specs.NamesAscending.{are_ascending}
pub use Rattle.cs_tree.specs.PathParts.{texts}
pub use Rattle.cs_tree.specs.PathSet.{Paths}
pub use Rattle.cs_trigram.proofs.SetLemmas.{Above, all_weaker, ascends_head, ascends_set, ascends_tail, has-set_of_numbers}
pub use Rattle.cs_trigram.specs.Trigram.{Ascends, closing_trigram, has, set_of_numbers}
pub use Rattle.cs_trigram.specs.TrigramSets.{AreDistinct, IsTrigramSet}
pub use Rattle.std.proofs.Math.Bool.{or-true}
pub use Rattle.std.proofs.lemmas.Bool.{and_cases, and_from, and_left, and_parts, and_right, cases_Bool, cases_eq, cases_lt, eq-eqb, eqb-true, false_from_ne_true, lt-ltb, ltb-false, ltb-true, ne_eqb, not-true, or_cases, or_left, or_right, true≢false}
pub use Rattle.std.proofs.lemmas.List.{append-nil, drop_all, drop_more, length-map, length_push, take-append-drop}
pub use Rattle.std.proofs.lemmas.List.Sorted.{All-permutation, Contains-permutation, length_permutation}
pub use Rattle.std.proofs.lemmas.Option.{none-some, same_Some, slice_get-get_or, slice_get_read, slice_get_within}
pub use Rattle.std.specs.Cmp.Lexicographic.{bytes_decides, nat_list_cmp_total}
pub use Rattle.std.specs.FinMap.Entries.{below_all, find, is_sorted}
pub use Rattle.std.specs.List.{All, AllByRecursion, Contains, concat, cons_option, list_all, list_any, range_with_len, zip}
pub use Rattle.std.specs.Option.{option_copied, option_map_or, option_or}
pub use Rattle.std.specs.Ordering.{eq_by_cmp, is_eq, is_lt, ordering_reverse}
pub use Rattle.std.specs.declared.cmp.Ordering.{Ordering}
pub use Rattle.std.specs.declared.cmp.Ordering.TheVariants.{Equal, Greater, Less}
