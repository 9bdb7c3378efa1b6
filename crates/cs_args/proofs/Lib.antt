pub mod ArgSplitLemmas
mod MessageLemmas
mod Examples
mod ReadOptionsLemmas
