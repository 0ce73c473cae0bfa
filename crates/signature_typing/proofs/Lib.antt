mod Prelude
pub mod FirstFound
pub mod Progress
pub mod Ends
pub mod Each
pub mod Values
pub mod InPlay
pub mod Posed
pub mod Unique
pub mod Results
pub mod Generated
pub mod EachStatement
