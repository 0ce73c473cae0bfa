mod Prelude
pub mod Lists
pub mod Cutting
pub mod Fronts
pub mod Picked
pub mod Tables
pub mod Walking
pub mod Steps
pub mod LeadRules
pub mod ProblemLetters
pub mod Passing
pub mod MadeRules
pub mod PartAnswers
pub mod ByNumber
pub mod BasisRules
pub mod RulesDecided
pub mod PartRests
pub mod PartOrder
pub mod Judged
pub mod ClosedMeaning
mod Ends
mod Examples
