-- Definitions that the contracts of the functions that `main` calls cite.
pub mod Program
pub mod Execution
pub mod ProjectArgs
-- Definitions that the contracts of other functions cite.
pub mod Running
pub mod Opened
