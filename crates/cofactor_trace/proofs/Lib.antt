mod Prelude
mod Examples
pub mod Divisors
pub mod Gathering
pub mod Operations
pub mod Halts
pub mod SizeLaws
pub mod TableLaws
pub mod RecordLaws
pub mod NeededLaws
pub mod Values
pub mod Balance
pub mod Closure
pub mod Passes
pub mod Kept
pub mod Limits
pub mod NamedGenerators
pub mod NamedRecords
pub mod NamingLaws
pub mod LemmaHalts
pub mod LemmaLimits
pub mod LemmaLaws
pub mod GatheredParts
pub mod LemmaSources
pub mod LemmaBalance
pub mod LemmaNames
