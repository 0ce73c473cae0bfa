pub mod Limits
pub mod Table
pub mod Finding
pub mod Rests
pub mod Closed
pub mod Working
pub mod Laws
pub mod ListLaws
