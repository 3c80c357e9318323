pub mod Causes
pub mod Faults
pub mod Limits
pub mod Tables
pub mod Told
