-- The definitions that the contracts of this crate cite, passed on from one place. Declares nothing.
pub use Rattle.cs_tree.specs.FailureCount.{count_after}
pub use Rattle.cs_tree.specs.KeepsStore.{KeepsStore}
pub use Rattle.cs_tree.specs.Store.{ReadShows, part_of}
pub use Rattle.cs_tree.specs.Transfers.{is_io_failure}
pub use Rattle.cs_state.specs.FileKinds.{kept_of, known_of}
pub use Rattle.cs_state.specs.Known.{HasNumbers, Kept, Known}
pub use Rattle.cs_state.specs.OpenedStates.{HasIndex}
pub use Rattle.cs_state.specs.StampedNames.{IsLearnable, IsUnmarked, cover_of, kind_byte, name_of, number_text, stamp_text, stamped}
pub use Rattle.cs_state.specs.StateFile.{IsState, eight_bytes, end_of, sealed}
pub use Rattle.cs_state.specs.StateForm.{HasForm, IsSealed}
pub use Rattle.cs_state.specs.SummedOutputs.{IsSummed, IsSummedIfWhole, KeepsSeal, bytes_given}
pub use Rattle.cs_state.specs.SummedStores.{KeepsBytes, ReadsSummed}
pub use Rattle.cs_state.specs.Sums.{IsTested, seal_of, sums_of}
