mod Examples
pub mod FormLemmas
mod NumberLemmas
mod OpeningLemmas
mod PieceLemmas
pub mod StampedLemmas
mod StoreLemmas
mod SumLemmas
