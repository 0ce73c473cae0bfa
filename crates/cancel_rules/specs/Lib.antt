pub mod Cancellations
pub mod Meaning
pub mod Items
pub mod Acceptance
pub mod Laws
pub mod Inner
