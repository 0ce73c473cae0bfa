mod Prelude
pub mod Trees
