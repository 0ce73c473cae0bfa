pub mod Types
pub mod First
pub mod Fault
pub mod Typing
pub mod Named
pub mod Unique
pub mod Laws
