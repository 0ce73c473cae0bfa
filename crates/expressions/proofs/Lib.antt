mod Prelude
mod Examples
pub mod Trees
pub mod Sequences
pub mod Ends
pub mod SignatureLoops
pub mod Words
pub mod Canonical
pub mod Multiples
pub mod Letters
pub mod Range
pub mod PolynomialLoops
pub mod Totals
mod SumsWithTerm
pub mod Maps
pub mod Written
pub mod TypedParts
pub mod Typed
pub mod WordRuns
pub mod TwoAdjoints
pub mod Copies
pub mod TermPowers
pub mod RepeatedWords
pub mod UnitPowers
