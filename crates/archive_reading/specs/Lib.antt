pub mod Reading
pub mod Ready
pub mod Refusals
pub mod Starting
pub mod Steps
