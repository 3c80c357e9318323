pub mod Ends
pub mod Outcome
pub mod Requests
pub mod Words
