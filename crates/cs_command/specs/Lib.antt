-- Definitions that public contracts cite: what words ask for.
pub mod Named
pub mod Words
pub mod Settings
pub mod LetterCase
pub mod Options
pub mod Values
pub mod WordLines
pub mod Choices
pub mod Patterns
pub mod Texts
pub mod Requests
pub mod Lines
