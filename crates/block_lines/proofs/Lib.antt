mod Prelude
pub mod Outcomes
pub mod SectionReaders
pub mod SectionBlocks
pub mod Names
pub mod NamedLines
pub mod PolynomialReader
pub mod LetterReader
pub mod Reader
pub mod BasisValues
pub mod EachText
mod SeenKinds
pub mod BasesBack
