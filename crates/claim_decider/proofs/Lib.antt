mod Prelude
pub mod ClaimNumbers
pub mod Judging
pub mod CaseLists
pub mod StepsTaken
pub mod UniqueOutcomes
pub mod UniqueRules
