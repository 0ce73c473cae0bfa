mod Prelude
pub mod QuietTexts
pub mod QuietBlocks
pub mod Parts
pub mod Said
pub mod Owed
pub mod Causes
pub mod Letters
pub mod Certificates
pub mod Models
pub mod ReadBases
pub mod Bases
mod BasisLetters
pub mod Chains
mod ChainTexts
pub mod Cancellations
pub mod EachCommand
