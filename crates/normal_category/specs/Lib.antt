pub mod Digits
pub mod Faults
pub mod Tests
pub mod Laws
