mod Prelude
pub mod Values
pub mod Items
pub mod Reading
pub mod Scanning
pub mod EachCharacter
pub mod Rescan
pub mod Literals
pub mod Longest
pub mod Pieces
pub mod TokenLaws
mod Examples
