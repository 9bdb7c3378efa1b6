-- Definitions that public contracts cite.
pub mod Fresh
pub mod KnownProjects
pub mod LaterSearches
pub mod Learnable
pub mod NotedFiles
pub mod ClosedStates
pub mod Thresholds
