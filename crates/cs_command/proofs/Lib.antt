pub mod StageLemmas
pub mod OptionLemmas
pub mod ValueLemmas
pub mod WordLineLemmas
pub mod ChoiceLemmas
pub mod PatternLemmas
pub mod RequestLemmas
mod Examples
mod WordLemmas
mod WordExamples
mod CaseLemmas
