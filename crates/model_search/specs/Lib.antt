pub mod SearchLaws
pub mod Searches
pub mod LeastBreaking
