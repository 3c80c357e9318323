pub mod AmidLemmas
pub mod CallNumbers
pub mod Counts
pub mod NamedFiles
pub mod Reading
pub mod Writing
