pub mod Drawing
pub mod HandGraphs
pub mod Looking
pub mod Matchings
pub mod Spans
