mod Prelude
pub mod CanonicalLaws
pub mod MeasuredLaws
pub mod Order
pub mod Overlaps
pub mod Places
