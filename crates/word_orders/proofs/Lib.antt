mod Prelude
pub mod AskedOrders
pub mod BlockReading
pub mod FirstFault
pub mod Induction
pub mod Orders
pub mod Over
pub mod WeightReading
