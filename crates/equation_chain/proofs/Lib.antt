mod Prelude
pub mod Generators
pub mod Numbered
pub mod Leads
pub mod Typed
pub mod Sums
pub mod Lines
pub mod Vanishing
pub mod Chains
pub mod Outcomes
pub mod Going
pub mod Multiple
pub mod Making
pub mod Spelled
pub mod Letters
pub mod Blocks
pub mod ChainsBack
pub mod OneChain
pub mod Readable
mod Examples
