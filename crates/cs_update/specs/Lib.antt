-- Definitions that public contracts cite.
pub mod Contents
pub mod Learning
pub mod Updates
pub mod Updating
pub mod Due
-- Definitions that private contracts cite.
pub mod Reads
pub mod Written
-- What the contracts cite, passed on.
pub mod Cited
