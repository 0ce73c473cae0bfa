mod Prelude
pub mod Stars
pub mod NewAdjoints
pub mod Ranges
pub mod Counted
pub mod Generators
mod Examples
pub mod Involution
pub mod UnitLists
pub mod LettersInPlay
