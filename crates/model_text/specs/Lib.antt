pub mod Written
pub mod ModelBlocks
pub mod ModelBounds
pub mod Models
pub mod Reading
pub mod Views
pub mod Back
