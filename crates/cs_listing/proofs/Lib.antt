pub mod NameLemmas
pub mod PathLemmas
pub mod RuleLemmas
pub mod ChoiceLemmas
pub mod GitLemmas
pub mod PathNameLemmas
pub mod LineLemmas
pub mod ClassLemmas
pub mod TokenLemmas
pub mod WorkLemmas
pub mod LayerLemmas
pub mod ReadLemmas
pub mod BraceLemmas
mod BraceExamples
mod Examples
mod LayerExamples
mod ListingExamples
pub mod ListingLemmas
pub mod KeyLemmas
pub mod WalkLemmas
pub mod OrderLemmas
pub mod TakenLemmas
pub mod FolderLemmas
pub mod VisitLemmas
pub mod StepLemmas
pub mod WeightLemmas
pub mod ReportLemmas
pub mod UnreadLemmas
pub mod ReportAllLemmas
pub mod StampLemmas
pub mod NextLemmas
pub mod BeginLemmas
pub mod WholeWalkLemmas
pub mod SettingLemmas
pub mod StarLemmas
pub mod EndLemmas
pub mod LastElementLemmas
pub mod MarkLemmas
mod MarkExamples
pub mod TypeLemmas
mod UnreadExamples
pub mod UserLemmas
mod SettingExamples
