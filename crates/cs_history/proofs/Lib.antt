pub mod StartIndexLemmas
pub mod JobListLemmas
pub mod HistoryLemmas
pub mod IndexLemmas
pub mod JobLemmas
pub mod MergedHistoryLemmas
pub mod ReplyLemmas
pub mod TextLemmas
mod Common
mod CleanedPathLemmas
mod Examples
mod PathElementLemmas
mod PairListLemmas
mod ShardLemmas
mod WalkLemmas
