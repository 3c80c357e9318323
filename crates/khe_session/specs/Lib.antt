pub mod Openings
pub mod States
