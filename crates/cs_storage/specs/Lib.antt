-- Definitions that public contracts cite.
pub mod FileAfter
pub mod Storing
pub mod NewFiles
pub mod Rights
pub mod Schedules
-- Definitions that only private contracts cite.
pub mod Steps
