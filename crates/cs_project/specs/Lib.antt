-- Definitions that public contracts cite.
pub mod Calls
pub mod Knowledge
pub mod Names
pub mod Noted
pub mod Projects
pub mod Scopes
pub mod Searched
pub mod Visits
-- Definitions that only private contracts cite.
pub mod Reports
pub mod Walked
-- What the contracts cite, passed on.
pub mod Cited
