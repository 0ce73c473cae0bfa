mod Prelude
mod Lines
mod Letters
mod Parts
mod NextLines
mod ItemLines
pub mod Reader
pub mod Readable
mod LinesBack
pub mod BlocksBack
