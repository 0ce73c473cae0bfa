mod Prelude
pub mod Over
pub mod Problems
pub mod Syntax
pub mod Statements
pub mod Owed
