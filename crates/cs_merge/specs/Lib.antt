-- Definitions that public contracts cite.
pub use Rattle.cs_index.specs.Decoding
pub use Rattle.cs_index.specs.PostingLists
pub use Rattle.cs_tree.specs.PathSet
pub use Rattle.cs_tree.specs.ByteList
pub use Rattle.cs_tree.specs.Cover
pub use Rattle.cs_index.specs.Encoding
pub use Rattle.cs_index.specs.Opening
pub use Rattle.cs_index.specs.OpenedParts
pub mod Merge
pub mod Content
pub mod Mergeable
pub mod MergeResult
pub mod Replacing
pub mod ListsFault
-- Definitions that private contracts cite.
pub mod SomePaths
pub mod SortedNames
pub mod IdMap
pub mod Begun
pub mod ListMerge
pub mod OldLists
-- What the contracts cite, passed on.
pub mod Cited
