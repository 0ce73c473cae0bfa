mod Prelude
pub mod Breaking
pub mod SearchAnswers
pub mod Tested
pub mod Blocks
pub mod SearchSteps
pub mod LeastBreaking
