pub mod Answers
pub mod Between
pub mod Faults
pub mod Found
pub mod Lines
pub mod Sent
pub mod Talks
