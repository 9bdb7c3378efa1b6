pub mod SpanLemmas
pub mod EdgeLemmas
mod RunLemmas
mod SufficientLemmas
mod BucketLemmas
mod Examples
mod LaneLemmas
mod PairLemmas
mod BitLemmas
mod ByteTestLemmas
mod WordBucketLemmas
mod PrefixLemmas
mod ScanLemmas
mod ListedLemmas
