mod Prelude
pub mod Lists
pub mod Numbers
pub mod Between
