pub mod Fates
pub mod Jobs
pub mod Listed
pub mod Ranks
pub mod Solved
pub mod Turns
pub mod Worked
