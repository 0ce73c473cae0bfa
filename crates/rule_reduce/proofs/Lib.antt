mod Prelude
pub mod Numbers
pub mod Rows
pub mod RowLists
pub mod Exits
pub mod InFront
pub mod InPlace
pub mod Rounds
pub mod ShownStates
pub mod Runs
pub mod Balance
pub mod Multipliers
pub mod RowsByRules
pub mod Irreducible
pub mod Matched
pub mod AtMost
pub mod BetterChoices
pub mod Measures
pub mod FirstChoices
pub mod Chosen
pub mod WordsKept
pub mod Settled
pub mod KeptWordLaws
pub mod LettersKept
pub mod LeadingPlaces
pub mod MadeRules
mod Examples
