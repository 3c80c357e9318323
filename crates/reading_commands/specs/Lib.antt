pub mod Answers
pub mod Ends
pub mod Lines
pub mod Outcome
pub mod Report
pub mod ReportParts
