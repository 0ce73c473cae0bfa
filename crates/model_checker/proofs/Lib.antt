mod Prelude
pub mod Arrows
pub mod Values
pub mod Places
pub mod Counterexamples
pub mod Decided
pub mod Judged
pub mod RefutedMeans
