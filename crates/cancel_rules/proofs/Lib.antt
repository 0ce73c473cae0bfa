mod Prelude
pub mod Words
pub mod Stripped
pub mod Meaning
pub mod Without
pub mod Typing
pub mod Shown
pub mod Outcomes
pub mod Judged
pub mod Letters
pub mod Steps
pub mod Marking
pub mod Signed
pub mod Found
