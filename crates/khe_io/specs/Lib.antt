pub mod Amid
pub mod Calls
pub mod Faults
pub mod MemoryShelf
pub mod MemorySink
pub mod Named
pub mod Shelf
