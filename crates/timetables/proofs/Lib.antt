pub mod CountsLemmas
pub mod MasksLemmas
pub mod Spans
