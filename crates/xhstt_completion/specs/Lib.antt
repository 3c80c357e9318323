pub mod Causes
pub mod Chains
pub mod Completed
pub mod Entries
pub mod Examples
pub mod Found
pub mod Numbered
pub mod Tables
