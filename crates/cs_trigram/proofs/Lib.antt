pub mod LawLemmas
pub mod QueryLemmas
pub mod RuleLemmas
pub mod SetLemmas
mod EndStringLemmas
mod SequenceQueryLemmas
mod CharStringLemmas
mod ExactSetLemmas
mod CrossProductLemmas
mod CrossLemmas
mod RunPrefixLemmas
mod CrossQueryLemmas
mod Examples
mod LeadingRunLemmas
mod SixgramCacheLemmas
mod SeenTrigramLemmas
mod MemberLemmas
mod MentionLemmas
mod SizeLemmas
mod SmallQueryLemmas
mod MayMatchLemmas
mod SequenceMentionLemmas
mod EndStringOriginLemmas
mod NodeListLemmas
mod SubstringTrigramLemmas
mod PositionLemmas
mod ExactRunLemmas
mod QueryExamples
mod FastPathLemmas
mod CorrectQueryLemmas
mod RepeatLemmas
mod EnumerationLemmas
mod ScanLemmas
mod SortedSetLemmas
mod TruncationLemmas
mod SplitTrigramLemmas
mod ExactStringLemmas
mod TrigramBitmapLemmas
