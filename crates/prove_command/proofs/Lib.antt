mod Prelude
mod Outcomes
mod Said
mod Writing
mod OwnEvidence
pub mod Answered
pub mod BenchSize
