pub mod CutLemmas
pub mod ReadyLemmas
pub mod BatchLemmas
