pub mod Boxes
pub mod MatchingLineLemmas
pub mod BudgetLemmas
pub mod BuildingLemmas
mod SendLemmas
pub mod SpanLemmas
mod Examples
