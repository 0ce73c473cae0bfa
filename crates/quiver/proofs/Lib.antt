mod Prelude
mod Examples
pub mod Counts
pub mod Growth
pub mod Letters
pub mod Identities
pub mod Fields
pub mod Declared
pub mod Added
pub mod Continued
pub mod SameSignature
pub mod TypedTerms
pub mod Found
