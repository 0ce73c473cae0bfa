mod Prelude
mod Ranges
mod Rows
mod Values
mod EntryLines
mod EntryValues
pub mod EachText
pub mod ModelValues
mod Examples
pub mod ObjectNames
mod MatricesBack
mod NamesApart
pub mod ModelsBack
pub mod Reader
