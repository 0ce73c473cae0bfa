mod Prelude
pub mod Ranges
pub mod Counts
pub mod Verdicts
pub mod Statuses
