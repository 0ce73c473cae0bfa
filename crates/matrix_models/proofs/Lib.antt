mod Prelude
pub mod Building
pub mod Products
pub mod Congruences
pub mod Primes
pub mod Rows
pub mod Stretches
pub mod Reducing
pub mod BackSolving
pub mod Reduction
pub mod AddedEquations
pub mod GreedyLists
pub mod GreedySolutions
pub mod GreedyExistence
pub mod Blocks
mod Examples
mod SystemExamples
mod BlockExamples
