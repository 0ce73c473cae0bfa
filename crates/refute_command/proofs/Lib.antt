mod Prelude
mod OwnEvidence
mod Said
pub mod Answered
