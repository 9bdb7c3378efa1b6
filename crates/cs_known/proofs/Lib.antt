mod Examples
mod LineLemmas
mod SkippedTextLemmas
mod LearnedLemmas
mod UnprintedLemmas
mod NameLemmas
mod ReachedLemmas
mod StateLemmas
