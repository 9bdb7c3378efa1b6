-- Definitions that public contracts cite.
pub mod Args
pub mod ArgSplit
pub mod JobView
pub mod Faults
pub mod FileFaults
pub mod SkipLines
pub mod Messages
-- Definitions that private contracts cite.
pub mod Settings
pub mod Appends
