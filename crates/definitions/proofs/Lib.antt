mod Prelude
pub mod Integers
pub mod Group
pub mod Multiples
pub mod Linear
pub mod Coefficients
pub mod Paths
pub mod Values
pub mod Rows
pub mod Sound
pub mod Typed
pub mod Adjoints
pub mod UnitSound
pub mod StarSound
pub mod Projection
pub mod Canonical
mod Examples
