pub mod EncodedRuns
pub mod IteratorSteps
pub mod ListAtEntry
pub mod MappedSteps
pub mod Prefixes
pub mod ReadStep
pub mod ShortBytes
pub mod StreamPush
