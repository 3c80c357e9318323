pub mod Counts
pub mod States
pub mod Runs
pub mod Views
pub mod Rule
pub mod Plays
pub mod Seats
