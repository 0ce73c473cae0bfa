pub mod Canonical
pub mod Letters
pub mod Occurrence
pub mod Overlap
pub mod Admissible
pub mod Rank
pub mod Measured
