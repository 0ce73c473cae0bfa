pub mod Values
pub mod Claims
pub mod Counterexamples
pub mod Laws
pub mod Meanings
