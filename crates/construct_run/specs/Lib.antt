pub mod Constructs
pub mod Grouped
pub mod Lines
