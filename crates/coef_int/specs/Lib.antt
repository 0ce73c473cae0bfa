pub mod Range
pub mod Operations
pub mod Divisor
pub mod Laws
