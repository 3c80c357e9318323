pub mod DefectLemmas
pub mod Escapes
pub mod PageLemmas
pub mod PieceLemmas
pub mod WordLemmas
