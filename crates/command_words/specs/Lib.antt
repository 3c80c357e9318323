pub mod Commands
pub mod Requests
pub mod Table
pub mod Words
