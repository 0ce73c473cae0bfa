pub mod Lines
pub mod Blocks
pub mod Bounds
pub mod Evidence
pub mod Written
pub mod Back
pub mod Reading
pub mod Views
