mod Prelude
pub mod PassedRules
pub mod Tested
pub mod Problems
