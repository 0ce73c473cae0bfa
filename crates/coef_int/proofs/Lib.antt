mod Prelude
pub mod Divisors
