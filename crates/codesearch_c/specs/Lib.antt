pub mod Compiled
pub mod Slots
pub mod Codes
pub mod Copies
pub mod MatchingLines
pub mod Patterns
pub mod Budgets
pub mod Spans
pub mod FindsSpans
pub mod Reports
pub mod Building
pub mod Merging
-- What the contracts cite, passed on.
pub mod Cited
