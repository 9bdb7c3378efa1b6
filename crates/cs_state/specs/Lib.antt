-- Definitions that public contracts cite.
pub mod Known
pub mod FileKinds
pub mod StampedNames
pub mod Sums
pub mod StateFile
pub mod StateForm
pub mod SummedStores
pub mod SummedOutputs
pub mod OpenedStates
-- What the contracts cite, passed on.
pub mod Cited
