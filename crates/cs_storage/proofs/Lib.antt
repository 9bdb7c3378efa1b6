pub mod FillLemmas
mod RightsLemmas
mod ScheduleLemmas
