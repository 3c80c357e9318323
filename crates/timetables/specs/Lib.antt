pub mod Counts
pub mod Stored
