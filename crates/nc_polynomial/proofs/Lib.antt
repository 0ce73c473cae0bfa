mod Prelude
pub mod Checked
pub mod CoefficientLaws
pub mod Shapes
pub mod Chains
pub mod Results
pub mod Stopped
pub mod Steps
pub mod Values
pub mod Unique
pub mod Words
pub mod Distinct
pub mod Updates
pub mod TableSums
pub mod Tables
pub mod RunningSums
pub mod CollectedTerms
pub mod Divisors
pub mod Kept
pub mod Units
pub mod AlignedMultiples
pub mod Around
pub mod Products
pub mod OneTerm
pub mod Adjoints
pub mod Rests
mod Examples
