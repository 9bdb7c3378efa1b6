-- The definitions that the contracts of this crate cite, passed on from one place. Declares nothing.
pub use Rattle.cs_index.specs.AscendingIds.{AscendWithin, max_ids}
pub use Rattle.cs_index.specs.Built.{is_above, is_storable}
pub use Rattle.cs_index.specs.Decoding.{DecodesAs}
pub use Rattle.cs_index.specs.Encoding.{Files, IsString, encoding, encoding_of}
pub use Rattle.cs_index.specs.OpenedParts.{Parts, are_covered, are_whole, files_in, lists_in, paths_in}
pub use Rattle.cs_index.specs.Opening.{opening}
pub use Rattle.cs_index.specs.PostingLists.{Ids, set_at}
pub use Rattle.cs_index.specs.Postings.{IsListFault, nothing_read}
pub use Rattle.cs_index.specs.Roundtrip.{parts_written}
pub use Rattle.cs_index.specs.Sending.{IsSentOn}
pub use Rattle.cs_index.specs.Tables.{TablesIn}
pub use Rattle.cs_index.specs.ValidParts.{AreValidParts}
pub use Rattle.cs_index.specs.Written.{AllBelow, IsSentEarly, Written, entries_written, with_written_name}
pub use Rattle.cs_tree.specs.ByteList.{AreBytes}
pub use Rattle.cs_tree.specs.Cover.{is_covered, least}
pub use Rattle.cs_tree.specs.Folders.{are_distinct}
pub use Rattle.cs_tree.specs.KeepsStore.{KeepsStore}
pub use Rattle.cs_tree.specs.NameOrder.{bytes_cmp}
pub use Rattle.cs_tree.specs.NamesAscending.{are_ascending}
pub use Rattle.cs_tree.specs.PathSet.{Paths}
pub use Rattle.cs_trigram.specs.Trigram.{closing_trigram}
pub use Rattle.cs_merge.specs.Begun.{IsBegun, IsBegunWith}
pub use Rattle.cs_merge.specs.Content.{DecodesAsContent, HasContent, IsContent, LieUnder, Opens}
pub use Rattle.cs_merge.specs.IdMap.{AreByRank, AreDropped, AreIdMaps, AreMergedNames, AreScattered, IsIncreasing, IsMergingNames, IsRun, new_ids_of, new_ids_read}
pub use Rattle.cs_merge.specs.ListMerge.{AreDistinctIds, AreLeft, BeginFrom, IsBelow, IsListAnswer, IsMergedList, IsRunOf, IsWrittenBelow, MayFollow, ids_after, list_ids, list_trigram, lower_of, new_of, position_after, without_number}
pub use Rattle.cs_merge.specs.ListsFault.{IsListsFault, are_whole_from, rest_fault}
pub use Rattle.cs_merge.specs.Merge.{merge_files, merge_paths}
pub use Rattle.cs_merge.specs.MergeResult.{IsBuildFault, IsGivenIndex, IsIndexWithin, IsMergeAnswer, IsMergeFault, IsMerged, most_bytes}
pub use Rattle.cs_merge.specs.Mergeable.{AreTested, both_whole, merge_index}
pub use Rattle.cs_merge.specs.OldLists.{AreAllMerged, AreRead, IsMergingLists, IsStored, known_parts, next_trigram, old_ids}
pub use Rattle.cs_merge.specs.Replacing.{IsCoveredBy, is_replaced}
pub use Rattle.cs_merge.specs.SomePaths.{AreAmong}
pub use Rattle.cs_merge.specs.SortedNames.{AreIndexNames, AreSortedNames, AreTestedNames, sorted_names}
