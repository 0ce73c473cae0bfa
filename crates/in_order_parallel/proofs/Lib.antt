mod Prelude
pub mod Zips
pub mod Shares
