pub mod ContentLemmas
pub mod DecodedContentLemmas
pub mod MergeLemmas
pub mod ReplacedLemmas
pub mod OpeningLemmas
pub mod SortedNamesLemmas
pub mod StorableLemmas
mod Common
mod TrigramSetLemmas
mod CoverLemmas
mod Examples
mod FileOrderLemmas
mod IdRunLemmas
mod MergeResultLemmas
mod NameStepLemmas
mod NextListLemmas
mod IdMergeLemmas
mod WrittenBelowLemmas
pub mod NameMergeLemmas
mod MergedFilesLemmas
mod ReadIdsLemmas
mod IdMapLemmas
mod TrigramMergeLemmas
mod RestLemmas
mod DistinctIdLemmas
mod WholeListLemmas
mod OldListLemmas
mod ListLoopLemmas
mod AppendedIdLemmas
