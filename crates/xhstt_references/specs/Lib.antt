pub mod Directories
pub mod Faults
pub mod First
pub mod Followed
pub mod Ids
pub mod References
