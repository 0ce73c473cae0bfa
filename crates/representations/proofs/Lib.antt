mod Prelude
pub mod Multiples
pub mod Suffixes
pub mod PathValues
pub mod TypedTerms
pub mod TermSums
pub mod ValueLoop
pub mod Lemmas
