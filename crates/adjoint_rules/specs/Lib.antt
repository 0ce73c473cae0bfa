pub mod Limits
pub mod Problem
pub mod Claims
pub mod Parts
pub mod Props
pub mod Laws
pub mod Bases
