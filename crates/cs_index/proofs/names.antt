pub mod ReducedPaths
pub mod SortedNames
