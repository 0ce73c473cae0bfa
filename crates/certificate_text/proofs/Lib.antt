mod Prelude
pub mod LineTrees
pub mod RowTrees
pub mod OpenBlocks
pub mod FlawedLines
pub mod NextLines
pub mod RowSteps
pub mod RowLines
pub mod RowValues
pub mod BlockLines
pub mod OneCertificate
pub mod EachText
pub mod Checkable
pub mod RowsBack
pub mod SizesBack
pub mod BlocksBack
pub mod LemmasBack
pub mod ReadBack
pub mod LemmaTexts
mod Examples
pub mod Reader
