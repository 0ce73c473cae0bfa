pub mod Traces
pub mod Rows
pub mod LemmaRows
