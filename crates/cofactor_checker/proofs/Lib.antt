mod Prelude
pub mod Words
pub mod First
pub mod Adding
pub mod Descending
pub mod Comparing
pub mod TableUpdates
pub mod InOrder
pub mod Counts
pub mod RowSums
pub mod Outcomes
pub mod Places
pub mod Each
pub mod Terms
pub mod LemmaSteps
pub mod LemmaSums
pub mod LemmaOutcomes
pub mod Shown
pub mod Differences
pub mod RowTests
pub mod LemmaTests
pub mod Judged
pub mod LetterSums
pub mod ProvedMeans
mod Examples
