pub mod Matched
pub mod Read
pub mod Repaired
pub mod Rewritten
