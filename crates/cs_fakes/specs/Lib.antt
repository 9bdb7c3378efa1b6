-- Definitions that public contracts cite.
pub use Rattle.cs_tree.specs.FailureCount
pub use Rattle.cs_tree.specs.Snapshot
pub use Rattle.cs_tree.specs.Folders
pub use Rattle.cs_tree.specs.ReadCounts
pub use Rattle.cs_tree.specs.Trees
pub use Rattle.cs_storage.specs.Storing
pub mod Changes
pub mod Puts
pub mod MemTrees
pub mod Fuses
pub mod MemFolders
-- Definitions that only private contracts cite.
pub mod MemItems
