mod Prelude
pub mod Field
pub mod Homomorphisms
pub mod Rationals
pub mod FieldLaws
pub mod Forms
pub mod Collect
pub mod CanonicalOrder
pub mod Congruence
pub mod Normal
pub mod WordForms
pub mod Products
pub mod NormalCategory
pub mod Sharp
pub mod Units
pub mod Stated
pub mod Images
pub mod Plain
pub mod MapSums
pub mod Basis
pub mod BothWays
pub mod StarSharp
mod Examples
mod StarExamples
