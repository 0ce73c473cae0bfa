pub mod Causes
pub mod Told
pub mod Shelf
pub mod Sink
pub mod Files
pub mod MemoryShelf
pub mod MemorySink
pub mod Steady
