pub mod Limits
pub mod Declarations
pub mod Refusals
pub mod Signatures
pub mod Tables
pub mod Over
