-- Definitions that public contracts cite.
pub mod Contexts
pub mod Forms
pub mod Findings
pub mod Shown
pub mod Printing
pub mod Printed
pub mod Reads
pub mod Streamed
pub mod Counts
pub mod Streams
pub mod Project
pub mod Work
-- Definitions that only private contracts cite.
pub mod Spacing
pub mod Scans
pub mod Blocks
pub mod Ordered
pub mod Buffer
-- What the contracts cite, passed on.
pub mod Cited
