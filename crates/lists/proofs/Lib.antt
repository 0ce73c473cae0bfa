mod Prelude
pub mod Decided
pub mod FirstFailure
pub mod Zips
