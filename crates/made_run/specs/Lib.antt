pub mod Commands
pub mod Courses
pub mod Lines
pub mod Runs
pub mod Steps
