pub mod Blocks
pub mod Bounds
pub mod Cancellations
pub mod Written
pub mod Back
pub mod Reading
pub mod Views
