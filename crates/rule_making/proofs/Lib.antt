mod Prelude
pub mod Quotients
pub mod Extended
pub mod Records
