pub mod Verdicts
pub mod Ready
pub mod Batches
pub mod Draws
