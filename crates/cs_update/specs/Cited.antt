-- The definitions that the contracts of this crate cite, passed on from one place. Declares nothing.
pub use Rattle.cs_index.specs.Decoding.{DecodesAs}
pub use Rattle.cs_index.specs.OpenedParts.{Parts}
pub use Rattle.cs_index.specs.Tables.{TablesIn}
pub use Rattle.cs_state.specs.Known.{HasNumbers}
pub use Rattle.cs_state.specs.FileKinds.{kept_of}
pub use Rattle.cs_state.specs.StampedNames.{IsLearnable}
pub use Rattle.cs_tree.specs.NamesAscending.{are_ascending}
pub use Rattle.cs_tree.specs.Snapshot.{Snapshot, item_at}
pub use Rattle.cs_trigram.specs.Scans.{AreDistinctTrigrams}
pub use Rattle.cs_trigram.specs.Trigram.{set_of_numbers}
pub use Rattle.cs_update.specs.Contents.{found_content, has_distinct, is_still, seen_content}
pub use Rattle.cs_update.specs.Due.{IsBatch, is_due, old_bytes, old_size}
pub use Rattle.cs_update.specs.Learning.{HasLearned, LearnedFile, all_learned, is_read, learned_if_old, run_of, seen_by, seen_of, with_learned}
pub use Rattle.cs_update.specs.Reads.{HasOpened, IsFoundIn, IsReadToEnd}
pub use Rattle.cs_update.specs.Updating.{IsFirstState, IsOpenState, IsUpdatedState, paths_seen}
pub use Rattle.cs_update.specs.Written.{IsMergedState, IsWritten}
