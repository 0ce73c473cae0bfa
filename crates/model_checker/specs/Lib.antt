pub mod Representations
pub mod Models
pub mod Memory
pub mod Refusals
pub mod Laws
pub mod Listed
pub mod RefutedMeans
