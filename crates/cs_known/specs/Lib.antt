-- Definitions that public contracts cite.
pub mod Skipped
pub mod Learned
pub mod Unprinted
pub mod KnownFiles
