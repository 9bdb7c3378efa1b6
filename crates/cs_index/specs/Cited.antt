-- The definitions that the contracts of this crate cite, passed on from one place. Declares nothing.
pub use Rattle.cs_tree.specs.ByteList.{AreBytes}
pub use Rattle.cs_tree.specs.KeepsStore.{KeepsStore}
pub use Rattle.cs_tree.specs.NamesAscending.{are_ascending}
pub use Rattle.cs_tree.specs.Store.{part_of}
pub use Rattle.cs_trigram.specs.Query.{matches_set}
pub use Rattle.cs_trigram.specs.Scans.{AreDistinctTrigrams}
pub use Rattle.cs_trigram.specs.Trigram.{Ascends, closing_trigram, has, set_of_numbers}
pub use Rattle.cs_trigram.specs.TrigramSets.{trigram_count}
pub use Rattle.cs_index.specs.Answerable.{is_answerable, mentions}
pub use Rattle.cs_index.specs.AscendingIds.{ArePostingLists, AscendWithin, BeginsFrom, ids_onward, max_ids, next_after}
pub use Rattle.cs_index.specs.BorrowedNames.{borrowed_names}
pub use Rattle.cs_index.specs.Buckets.{AreBuckets, AreFreed, BucketPostings, HaveBases, bucket_postings, ids_in_buckets, ids_with, unused, with_file, without_file}
pub use Rattle.cs_index.specs.Built.{IsAlwaysLonger, IsBuilt, IsFull, IsOutOfOrder, are_paths, file_map, is_above, is_storable, path_set, with_entry}
pub use Rattle.cs_index.specs.CandidatePages.{AreOnPage, candidates_from}
pub use Rattle.cs_index.specs.Candidates.{AreCandidates, candidates_of}
pub use Rattle.cs_index.specs.Decoding.{DecodesAs}
pub use Rattle.cs_index.specs.Encoding.{Entry, IsString, ListEntry, PostingList, deltas_from, encoding, encoding_of, entry_bytes, four_bytes, layout, list_entries, name_offsets, names_of, posting_list_bytes, postings_of, sections_of, stream_of, strings_section, three_bytes, trailer_magic, varint, varint_within, with_nul}
pub use Rattle.cs_index.specs.Failing.{Fails}
pub use Rattle.cs_index.specs.Form.{Exist, Gathers, Grows, IsForm, IsNumberOf, IsRequired, IsWithin, joined, matched, members_match, node_matches, number_matches, numbers, queries_match}
pub use Rattle.cs_index.specs.Gathering.{lists_below, lists_from}
pub use Rattle.cs_index.specs.IdStream.{IsMarked, IsStream, ids_by_deltas, ids_in}
pub use Rattle.cs_index.specs.Indexable.{IsIndexable}
pub use Rattle.cs_index.specs.LeastLength.{least_length}
pub use Rattle.cs_index.specs.ListDecoding.{AreMappedBytes, IsStep}
pub use Rattle.cs_index.specs.ListReading.{AreBytesOf, HasList, known_ids, list_in}
pub use Rattle.cs_index.specs.MappedIds.{new_ids_of}
pub use Rattle.cs_index.specs.MaxNames.{max_names}
pub use Rattle.cs_index.specs.NameReading.{HasName, IsName, ReadsNames}
pub use Rattle.cs_index.specs.Nuls.{AreTextsTo, IsPairAt, is_nul}
pub use Rattle.cs_index.specs.OpenedParts.{Parts, ids_read}
pub use Rattle.cs_index.specs.Opening.{are_section_offsets, entries_in, entry_at, is_list_index, is_names_section, is_section, number_at, opening, read_sections, rises, split_of, texts_of, trigram_at}
pub use Rattle.cs_index.specs.Order.{IsOrderOf, id_in, name_in, with_ids}
pub use Rattle.cs_index.specs.PostingLists.{Ids, damage, entries_of, read_ids, read_list, read_varint, set_at, varint_at}
pub use Rattle.cs_index.specs.Postings.{IsListFault, entry_of, ids_given}
pub use Rattle.cs_index.specs.Prefixes.{IsPrefix}
pub use Rattle.cs_index.specs.Roundtrip.{IsIndexWith, parts_written}
pub use Rattle.cs_index.specs.Rows.{HaveWidth, IsLeft, IsReadOn, IsRowOf, LacksId, RowSoFar, column, have_id, lists_are_whole}
pub use Rattle.cs_index.specs.SectionPieces.{AreNamesTested, ArePathsRead, IsNoSection, IsTextRun, IsWindow, are_entries}
pub use Rattle.cs_index.specs.SectionsInvariant.{entry_from, first_of, lists_at}
pub use Rattle.cs_index.specs.Sending.{IsSentOn, all_sent, bytes_in, with_bytes}
pub use Rattle.cs_index.specs.ShortDeltas.{are_short, is_first, second_bytes}
pub use Rattle.cs_index.specs.Stored.{DecodesOrFails, StandsIn, sections_at}
pub use Rattle.cs_index.specs.StoredEntries.{AreListed, HasEntries, entry_read, trigrams_listed}
pub use Rattle.cs_index.specs.StoredLists.{GivesBelow, Holds, IsReady, SkipsBelow, ids_left, with_piece}
pub use Rattle.cs_index.specs.StoredOpening.{AreAscendingOffsets, AreDisorderedOffsets, AreTrailerOffsets, IsSplitAt, is_tail, with_lists}
pub use Rattle.cs_index.specs.Tables.{AreValidTables, OpensAs, OpensAsTables, TablesIn, lists_room}
pub use Rattle.cs_index.specs.ValidParts.{AreValidParts}
pub use Rattle.cs_index.specs.ValidSections.{AreValidSections, HasNoText, IsNameTable, has_starts}
pub use Rattle.cs_index.specs.WholeLists.{IsList}
pub use Rattle.cs_index.specs.Windows.{HasFrom, HasText, IsPiece, StandAt, StandsAt}
pub use Rattle.cs_index.specs.Written.{AllBelow, IsSentEarly, entries_written, last_ids, prefix_of, with_last_id, with_last_ids, with_list, with_sent, with_written_name}
pub use Rattle.cs_index.specs.WrittenLists.{AreFirstIds, IsWritten, with_posting, with_postings}
