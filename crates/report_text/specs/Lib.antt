pub mod Heads
pub mod Report
pub mod Bench
