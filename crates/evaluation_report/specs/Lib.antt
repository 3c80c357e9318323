pub mod Answers
pub mod Demands
pub mod Examples
pub mod Lines
pub mod Points
pub mod Words
