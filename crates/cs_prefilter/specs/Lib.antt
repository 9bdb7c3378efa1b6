-- Definitions that public contracts cite.
pub use Rattle.cs_syntax.specs.Matching
pub mod WordAt
pub mod OffsetWork
pub mod Listed
-- Definitions that only private contracts cite.
pub mod Words
pub mod Runs
pub mod ByteTest
pub mod Pairs
pub mod Lanes
pub mod Buckets
pub mod WordSearch
pub mod Probe
pub mod WordBuckets
pub mod Prefixes
pub mod WordStop
pub mod Sufficient
-- What the contracts cite, passed on.
pub mod Cited
