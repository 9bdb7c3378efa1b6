-- Definitions that public contracts cite.
pub use Rattle.cs_storage.specs.FileAfter
pub use Rattle.cs_index.specs.Stored
pub use Rattle.cs_history.specs.Headline
pub use Rattle.cs_history.specs.Jobs
pub use Rattle.cs_history.specs.JobKinds
pub use Rattle.cs_history.specs.Replies
pub mod Diagnostics
pub mod Next
pub mod Refusals
pub mod Output
pub mod Steps
pub mod OldIndex
pub mod KeepsTree
pub mod KeepsOldIndex
pub mod Sends
pub mod RunsJob
-- Definitions that private contracts cite.
pub mod Verdicts
pub mod Files
pub mod JobPaths
pub mod Merges
pub mod Outcomes
pub mod Effects
pub mod IndexedFiles
pub mod WalkAnswers
pub mod Listed
pub mod FitTables
pub mod BaseReads
pub mod ReadsFiles
-- What the contracts cite, passed on.
pub mod Cited
